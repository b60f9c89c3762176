use Rattle.std.proofs.Common.{ap, subst}
use Rattle.pf_model.specs.Aggregation.{group_key}
use Rattle.pf_columns.specs.Columns.{AreRising, columns_labels}
use Rattle.pf_columns.proofs.WithParameter.{aggregation_is, columns_rise}
use Rattle.pf_columns.proofs.aggregate.aggregated_by.Goals as goal

pub invariant_of-result : goal.invariant_of-result
invariant_of-result c =
    columns_rise c.args.op c.requires (group_key c.args.grouping.now.without c.args.grouping.now.labels) c.args.params.now c.args.steps.columns c.steps.inside.columns.items c.in_ok-columns.columns.items c.args.len
    (subst (λ s. AreRising (columns_labels s.columns)) c.steps.view_is c.steps.invariant)
    (ap (λ s. s.columns) c.steps.view_is) c.in_ok-columns.ensures

pub returns : goal.returns
returns c =
    aggregation_is c.args.op c.requires (group_key c.args.grouping.now.without c.args.grouping.now.labels) c.args.params.now c.args.steps.columns c.steps.inside.columns.items c.in_ok-columns.columns.items c.args.len
    (subst (λ s. AreRising (columns_labels s.columns)) c.steps.view_is c.steps.invariant)
    (ap (λ s. s.columns) c.steps.view_is) c.in_ok-columns.ensures
    c.args.steps.bads c.steps.inside.bads.items (ap (λ s. s.bads) c.steps.view_is)
