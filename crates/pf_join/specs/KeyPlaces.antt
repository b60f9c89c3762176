-- Keys with the places at which they stand in a list, in the order of the keys: this project's own.
use Rattle.std.specs.Prelude.{ℕ, ◌+◌, Option, Some, None, List, [], ◌∷◌, filter}
use Rattle.std.specs.List.{slice_get}
use Rattle.std.specs.declared.cmp.Ordering.{Ordering}
use Rattle.pf_base.specs.LabelSets.{Pairs}
use Rattle.pf_base.specs.LabelOrder.{labels_cmp}
use Rattle.pf_model.specs.Lists.{joined}
use Rattle.pf_model.specs.Selection.{same_labels}
use Rattle.pf_join.specs.declared.places.KeyPlace.{KeyPlace}

abbrev pub key_of : KeyPlace → Pairs
key_of x = x.key

abbrev pub place_cmp : KeyPlace → KeyPlace → Ordering
place_cmp x y = labels_cmp x.key y.key

-- keys with their places, of which the first is i
abbrev pub placed : ℕ → List Pairs → List KeyPlace
placed i [] = []
placed i (k ∷ ks) = record { key = k; place = i } ∷ placed (i + 1) ks

-- those whose key is this one, in their order
abbrev pub places_with : Pairs → List KeyPlace → List KeyPlace
places_with k xs = filter (λ x. same_labels k x.key) xs

-- what stands at places of a list
abbrev pub one_of : {X : Type 0} → Option X → List X
one_of None = []
one_of (Some x) = x ∷ []

abbrev pub those_at : {X : Type 0} → List X → List KeyPlace → List X
those_at xs places = joined (λ p. one_of (slice_get xs p.place)) places
