use Rattle.std.proofs.Common.{rules, tests}
use Rattle.std.proofs.lemmas.List.Sorted.{answers_always}
use Rattle.pf_base.proofs.StableSorting.{stable_sorted_is}
use Rattle.pf_model.specs.Cells.{element_cmp}
use Rattle.pf_math.proofs.ElementOrder.{element_total, element_lt, element_weak}
use Rattle.pf_join.proofs.cells.in_label_order.Goals as goal

-- the sort compares labels
pub returns : goal.returns
returns c =
    let compares = answers_always _ _ _ (λ f a r g k. search (rules, tests)) in
    stable_sorted_is element_cmp element_total _ _
    (c.in_ok-sort_by.ensures.sorted element_lt element_weak compares)
    (c.in_ok-sort_by.ensures.stable element_lt element_weak compares)
