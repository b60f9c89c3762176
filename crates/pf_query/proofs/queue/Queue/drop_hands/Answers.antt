use Rattle.std.proofs.Common.{◌∙◌, ap, filter, rules}
use Rattle.std.proofs.lemmas.Fn.{filter_same}
use Rattle.pf_query.specs.Jobs.{is_other_hand}
use Rattle.pf_query.proofs.Hands.{queue_of}
use Rattle.pf_query.proofs.queue.Queue.drop_hands.Goals as goal

pub returns : goal.returns
returns c =
    queue_of _ _ _ _ (ap (λ s. s.waiting) c.self.view_is) (
    filter_same _ (is_other_hand c.args.query) _ (λ x b f' h. search rules) _ _ c.retain.ensures.filtered
    ∙ ap (λ s. filter (is_other_hand c.args.query) s.hands) c.self.view_is)
