-- The elements of groups, by the places of their keys: this project's own.
use Rattle.std.specs.Prelude.{ℕ, cond, List, [], ◌∷◌, nat_eq}
use Rattle.pf_base.specs.LabelSets.{Pairs}
use Rattle.pf_model.specs.declared.cell.Element.{Element}
use Rattle.pf_model.specs.Aggregation.{ElementGroup}

-- the elements at a place
abbrev pub those_of : ℕ → List ℕ → List Element → List Element
those_of g [] es = []
those_of g (o ∷ os) [] = []
those_of g (o ∷ os) (e ∷ es) = cond (nat_eq o g) (e ∷ those_of g os es) (those_of g os es)

-- keys with the elements of each
abbrev pub grouped : List Pairs → List (List Element) → List ElementGroup
grouped [] bs = []
grouped (k ∷ ks) [] = []
grouped (k ∷ ks) (b ∷ bs) = record { key = k; elements = b } ∷ grouped ks bs
