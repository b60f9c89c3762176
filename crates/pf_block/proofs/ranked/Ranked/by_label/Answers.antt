use Rattle.std.proofs.Common.{◌<◌, length, sym, ap, ◌∙◌, subst}
use Rattle.std.specs.List.{All}
use Rattle.pf_block.specs.LabelOrders.{ids_by_label}
use Rattle.pf_block.proofs.LabelOrdering.{ids_within, length_ids}
use Rattle.pf_block.proofs.ranked.Ranked.by_label.Goals as goal

pub returns-clause-count : goal.returns-clause-count
returns-clause-count c = ap length (c.deref.ensures.value ∙ c.self.invariant.order) ∙ length_ids c.self.inside.index ∙ ap length c.self.view_is

pub returns-clause-within : goal.returns-clause-within
returns-clause-within c =
    subst (All (λ id. id < length c.args.self.now)) (sym (c.deref.ensures.value ∙ c.self.invariant.order ∙ ap ids_by_label c.self.view_is)) (ids_within c.args.self.now)
