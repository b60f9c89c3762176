-- Series by their ids: the places of their labels in a list. This project's own.
use Rattle.std.specs.Prelude.{ℕ, ◌+◌, Bool, ◌&&◌, cond, Option, List, [], ◌∷◌}
use Rattle.std.specs.Ordering.{is_eq}
use Rattle.std.specs.Str.{bytes_eq}
use Rattle.std.specs.List.{list_any, position_from}
use Rattle.pf_base.specs.LabelSets.{Pairs}
use Rattle.pf_base.specs.LabelOrder.{labels_cmp}

-- the id of the series with these labels, none where there is no such series
abbrev pub id_of : Pairs → List Pairs → Option ℕ
id_of labels series = position_from (λ l. is_eq (labels_cmp labels l)) 0 series

-- a label set has this pair of a name and a value
abbrev pub has_pair : List ℕ → List ℕ → Pairs → Bool
has_pair name value labels = list_any (λ p. bytes_eq p.0 name && bytes_eq p.1 value) labels

-- the ids of the series that have a pair, by rising id; the first of the list has the id `first`
abbrev pub ids_from : ℕ → List ℕ → List ℕ → List Pairs → List ℕ
ids_from first name value [] = []
ids_from first name value (l ∷ ls) =
    cond (has_pair name value l) (first ∷ ids_from (first + 1) name value ls) (ids_from (first + 1) name value ls)

abbrev pub ids_with : List ℕ → List ℕ → List Pairs → List ℕ
ids_with name value series = ids_from 0 name value series
