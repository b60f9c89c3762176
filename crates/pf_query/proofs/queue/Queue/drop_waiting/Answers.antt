use Rattle.std.proofs.Common.{◌∙◌, ap, filter, rules}
use Rattle.std.proofs.lemmas.Fn.{filter_same}
use Rattle.pf_query.specs.Jobs.{is_other_job}
use Rattle.pf_query.proofs.Hands.{queue_of}
use Rattle.pf_query.proofs.queue.Queue.drop_waiting.Goals as goal

pub returns : goal.returns
returns c =
    queue_of _ _ _ _ (
    filter_same _ (is_other_job c.args.query) _ (λ x b f' h. search rules) _ _ c.retain.ensures.filtered
    ∙ ap (λ s. filter (is_other_job c.args.query) s.waiting) c.self.view_is) (ap (λ s. s.hands) c.self.view_is)
