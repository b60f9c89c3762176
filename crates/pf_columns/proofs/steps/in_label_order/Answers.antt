use Rattle.std.proofs.Common.{rules, tests}
use Rattle.std.proofs.lemmas.List.Sorted.{answers_always}
use Rattle.pf_base.proofs.StableSorting.{stable_sorted_is}
use Rattle.pf_columns.specs.Steps.{column_cmp}
use Rattle.pf_columns.proofs.LabelRank.{column_total, column_lt, column_weak}
use Rattle.pf_columns.proofs.steps.in_label_order.Goals as goal

-- the sort compares labels
pub returns : goal.returns
returns c =
    let compares = answers_always _ _ _ (λ f a r g k. search (rules, tests)) in
    stable_sorted_is column_cmp column_total _ _
    (c.in_ok-sort_by.ensures.sorted column_lt column_weak compares)
    (c.in_ok-sort_by.ensures.stable column_lt column_weak compares)
