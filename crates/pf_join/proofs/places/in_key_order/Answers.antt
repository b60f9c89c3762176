use Rattle.std.proofs.Common.{rules, tests}
use Rattle.std.proofs.lemmas.List.Sorted.{answers_always}
use Rattle.pf_base.proofs.StableSorting.{stable_sorted_is}
use Rattle.pf_join.specs.KeyPlaces.{place_cmp}
use Rattle.pf_join.proofs.KeyOrder.{place_lt, place_total, place_weak}
use Rattle.pf_join.proofs.places.in_key_order.Goals as goal

-- the sort compares keys
pub returns-clause-items : goal.returns-clause-items
returns-clause-items c =
    let compares = answers_always _ _ _ (λ f a r g k. search (rules, tests)) in
    stable_sorted_is place_cmp place_total _ _
    (c.in_ok-sort_by.ensures.sorted place_lt place_weak compares)
    (c.in_ok-sort_by.ensures.stable place_lt place_weak compares)

pub returns-clause-sorted : goal.returns-clause-sorted
returns-clause-sorted c =
    let compares = answers_always _ _ _ (λ f a r g k. search (rules, tests)) in
    c.in_ok-sort_by.ensures.sorted place_lt place_weak compares
