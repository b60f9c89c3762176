-- Series in label order. This project's own.
use Rattle.std.specs.Prelude.{ℕ, ◌+◌, Bool, true, ◌&&◌, List, [], ◌∷◌, map, nat_le, slice_index_or}
use Rattle.std.specs.declared.cmp.Ordering.{Ordering}
use Rattle.std.specs.Ordering.{nat_cmp, ordering_then}
use Rattle.pf_base.specs.LabelSets.{Pairs}
use Rattle.pf_base.specs.LabelOrder.{labels_cmp}
use Rattle.pf_base.specs.Sorting.{isort}

-- label sets with their ids; the first has the id `first`
abbrev pub numbered_from : ℕ → List Pairs → List (Pairs × ℕ)
numbered_from first [] = []
numbered_from first (l ∷ ls) = (l, first) ∷ numbered_from (first + 1) ls

-- label order, and then by id
abbrev pub by_label : Pairs × ℕ → Pairs × ℕ → Ordering
by_label a b = ordering_then (labels_cmp a.0 b.0) (nat_cmp a.1 b.1)

-- the ids of the series in label order
abbrev pub ids_by_label : List Pairs → List ℕ
ids_by_label ls = map (λ e. e.1) (isort by_label (numbered_from 0 ls))

-- the order of two series by their ids
abbrev pub ids_cmp : List Pairs → ℕ → ℕ → Ordering
ids_cmp ls a b = by_label (slice_index_or ls a [], a) (slice_index_or ls b [], b)

-- some series in label order
abbrev pub in_label_order : List Pairs → List ℕ → List ℕ
in_label_order ls ids = isort (ids_cmp ls) ids

-- each id is above the one before it, and the first is not below `least`
abbrev pub rise_from : ℕ → List ℕ → Bool
rise_from least [] = true
rise_from least (id ∷ ids) = nat_le least id && rise_from (id + 1) ids
