use Rattle.std.proofs.Common.{◌≡◌, List, subst, sym}
use Rattle.std.specs.Prelude.{IfOk}
use Rattle.pf_model.specs.declared.functions.AggOp.TheVariants.{Quantile}
use Rattle.pf_model.specs.Aggregation.{group_key}
use Rattle.pf_columns.specs.Columns.{ColumnData}
use Rattle.pf_columns.specs.Ranks.{columns_by}
use Rattle.pf_columns.proofs.aggregate.columns_by.Goals as goal

pub returns-in-Quantile : goal.returns-in-Quantile
returns-in-Quantile c =
    let key = group_key c.args.grouping.now.without c.args.grouping.now.labels in
    let params = c.args.params.now in
    subst (λ o. IfOk c.grouped.result (λ v. v.items ≡ columns_by o key params c.args.columns.items c.args.len)) (sym c.in-Quantile.is)
    (subst (λ (cs : List ColumnData). IfOk c.grouped.result (λ v. v.items ≡ columns_by Quantile key params cs c.args.len)) c.deref.ensures.value c.grouped.ensures)
