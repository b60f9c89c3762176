-- The values that a matcher asks for, and the series that have one of them. This project's own.
use Rattle.std.specs.Prelude.{ℕ, ◌+◌, ◌++◌, Bool, cond, List, [], ◌∷◌, map, filter, slice_index_or}
use Rattle.std.specs.List.{list_any}
use Rattle.pf_base.specs.LabelSets.{Pairs, is_empty}
use Rattle.pf_block.specs.SeriesIds.{has_pair, ids_with}
use Rattle.pf_model.specs.declared.expr.Matcher.{Matcher}
use Rattle.pf_model.specs.declared.expr.MatchSign.{MatchSign}
use Rattle.pf_model.specs.declared.expr.MatchSign.TheVariants.{Equal, Like}
use Rattle.pf_model.specs.Patterns.{alternatives, is_plain_pattern}
use Rattle.pf_model.specs.Selection.{accepts}

-- none, where one of them is empty: a series without the label has that value
abbrev pub unless_empty : List (List ℕ) → List (List ℕ)
unless_empty values = cond (list_any is_empty values) [] values

-- the values that a sign with a text asks for, none where they aren't told
abbrev pub values_of : MatchSign → List ℕ → List (List ℕ)
values_of Equal text = text ∷ []
values_of Like pattern = cond (is_plain_pattern pattern) (alternatives pattern) []
values_of sign text = []

-- the values of which each series that a matcher accepts has one, none where it also accepts others
abbrev pub listed_values : Matcher → List (List ℕ)
listed_values m = unless_empty (values_of m.sign m.text)

-- the lists of some values of a label, one after another
abbrev pub all_listed : List ℕ → List (List ℕ) → List Pairs → List ℕ
all_listed name [] ls = []
all_listed name (v ∷ vs) ls = ids_with name v ls ++ all_listed name vs ls

-- the labels of a series
abbrev pub labels_at : List Pairs → ℕ → Pairs
labels_at ls id = slice_index_or ls id []

-- a label set has one of some values of a label
abbrev pub has_one : List ℕ → List (List ℕ) → Pairs → Bool
has_one name values labels = list_any (λ v. has_pair name v labels) values

-- the ids of all of some series; the first has the id `first`
abbrev pub all_from : ℕ → List Pairs → List ℕ
all_from first [] = []
all_from first (l ∷ ls) = first ∷ all_from (first + 1) ls

-- the ids of the series that have one of some values of a label
abbrev pub listed_in : List ℕ → List (List ℕ) → List Pairs → List ℕ
listed_in name values ls = filter (λ id. has_one name values (labels_at ls id)) (all_from 0 ls)

-- those of some series that matchers accept
abbrev pub accepted_in : List Matcher → List Pairs → List ℕ → List ℕ
accepted_in ms ls ids = filter (λ id. accepts ms (labels_at ls id)) ids

-- some series with their labels
abbrev pub entries_at : List Pairs → List ℕ → List (Pairs × ℕ)
entries_at ls ids = map (λ id. (labels_at ls id, id)) ids

-- the ids of some series
abbrev pub ids_of : List (Pairs × ℕ) → List ℕ
ids_of series = map (λ e. e.1) series
