-- The order of elements, and of places, is that of their keys.
use Rattle.std.proofs.Common.{◌≡◌, Bool, List, map}
use Rattle.std.specs.Cmp.{IsTotalOrder, IsStrictWeakOrder}
use Rattle.std.proofs.lemmas.List.MinMax.{ranks_by}
use Rattle.std.specs.List.Sorted.{IsSorted}
use Rattle.std.specs.Ordering.{is_lt}
use Rattle.pf_base.proofs.Sorting.{ascends_sorted}
use Rattle.pf_model.specs.Cells.{has_equal}
use Rattle.pf_join.specs.Neighbours.{repeats}
use Rattle.pf_base.specs.LabelOrder.{labels_total}
use Rattle.pf_join.specs.declared.keys.Keyed.{Keyed}
use Rattle.pf_join.specs.declared.places.KeyPlace.{KeyPlace}
use Rattle.pf_join.specs.KeyPlaces as place
use Rattle.pf_join.specs.KeyPlaces.{place_cmp}
use Rattle.pf_join.specs.KeyedElements.{key_of, keyed_cmp}
use Rattle.pf_join.proofs.Repeats.{ascending_is, by_key_total}

pub keyed_total : IsTotalOrder keyed_cmp
keyed_total = by_key_total key_of

abbrev pub keyed_lt : Keyed → Keyed → Bool
keyed_lt x y = is_lt (keyed_cmp x y)

pub keyed_weak : IsStrictWeakOrder keyed_lt
keyed_weak = ranks_by labels_total key_of

pub repeats_are : (xs : List Keyed) → IsSorted keyed_cmp xs → repeats key_of xs ≡ has_equal (map key_of xs)
repeats_are xs s = ascending_is key_of xs (ascends_sorted keyed_cmp keyed_total xs s)

pub place_total : IsTotalOrder place_cmp
place_total = by_key_total place.key_of

abbrev pub place_lt : KeyPlace → KeyPlace → Bool
place_lt x y = is_lt (place_cmp x y)

pub place_weak : IsStrictWeakOrder place_lt
place_weak = ranks_by labels_total place.key_of

pub places_repeat : (xs : List KeyPlace) → IsSorted place_cmp xs → repeats place.key_of xs ≡ has_equal (map place.key_of xs)
places_repeat xs s = ascending_is place.key_of xs (ascends_sorted place_cmp place_total xs s)
