use Rattle.std.proofs.Common.{subst, sym, ap, ◌∙◌}
use Rattle.pf_model.specs.Aggregation.{group_key}
use Rattle.pf_columns.specs.Columns.{AreRising}
use Rattle.pf_shard.specs.Groups.{keys_in}
use Rattle.pf_shard.proofs.KnownGroups.{keys_rise, part_known}
use Rattle.pf_shard.proofs.grouped.partials_over.Goals as goal

pub invariant_of-result : goal.invariant_of-result
invariant_of-result c = (
  subst (λ ds. AreRising (keys_in ds)) (sym c.in_ok-columns.ensures.known)
      (keys_rise (group_key c.args.grouping.now.without c.args.grouping.now.labels) c.deref.result.now c.args.len),
  c.in_ok-columns.ensures.within,
)

pub returns : goal.returns
returns c = λ k h.
    part_known c.args.grouping.now c.args.steps.columns c.deref.result.now c.in_ok-columns.columns.items c.args.len c.args.steps.bads c.steps.inside.bads.items
    (c.deref.ensures.value ∙ ap (λ s. s.columns) c.steps.view_is) (ap (λ s. s.bads) c.steps.view_is) c.in_ok-columns.ensures.known k h
