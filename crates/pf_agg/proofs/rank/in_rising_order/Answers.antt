use Rattle.std.proofs.Common.{rules, tests, ◌∙◌, ap, map, Bor}
use Rattle.std.specs.Ordering.{is_lt}
use Rattle.std.proofs.lemmas.List.Sorted.{answers_always}
use Rattle.pf_base.proofs.StableSorting.{stable_sorted_is}
use Rattle.pf_model.specs.declared.cell.Element.{Element}
use Rattle.pf_model.specs.Aggregation.{rising}
use Rattle.pf_agg.specs.declared.rank.Rank.TheVariants as rank
use Rattle.pf_agg.proofs.RankOrder.{map_isort, order_total, through, through_total, through_weak}
use Rattle.pf_agg.proofs.rank.in_rising_order.Goals as goal

abbrev now : Bor Element → Element
now e = e.now

-- the sort compares what the references point to
pub returns : goal.returns
returns c =
    let total = order_total rank.Rising in
    let weak = through_weak now rising total in
    let compares = answers_always _ _ _ (λ f a r g k. search (rules, tests)) in
    ap (map now) (stable_sorted_is (through now rising) (through_total now rising total) _ _
    (c.in_ok-sort_by.ensures.sorted (λ x y. is_lt (rising x.now y.now)) weak compares)
    (c.in_ok-sort_by.ensures.stable (λ x y. is_lt (rising x.now y.now)) weak compares))
    ∙ map_isort now rising c.args.elements.items
