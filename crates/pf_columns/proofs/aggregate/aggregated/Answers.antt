use Rattle.std.proofs.Common.{ap, ◌∙◌}
use Rattle.pf_model.specs.Aggregation.{group_key}
use Rattle.pf_columns.proofs.GroupColumns.{aggregation_is, groups_rise}
use Rattle.pf_columns.proofs.aggregate.aggregated.Goals as goal

-- the columns are those of the groups
pub invariant_of-result : goal.invariant_of-result
invariant_of-result c =
    groups_rise c.args.op (group_key c.args.grouping.now.without c.args.grouping.now.labels) c.args.steps.columns c.deref.result.now c.in_ok-columns.columns.items c.args.len
    (c.deref.ensures.value ∙ ap (λ s. s.columns) c.steps.view_is) c.in_ok-columns.ensures

pub returns : goal.returns
returns c =
    aggregation_is c.args.op (group_key c.args.grouping.now.without c.args.grouping.now.labels) c.args.steps.columns c.deref.result.now c.in_ok-columns.columns.items c.args.len
    (c.deref.ensures.value ∙ ap (λ s. s.columns) c.steps.view_is) c.in_ok-columns.ensures
    c.args.steps.bads c.steps.inside.bads.items (ap (λ s. s.bads) c.steps.view_is)
