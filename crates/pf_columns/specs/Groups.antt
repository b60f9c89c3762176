-- The groups of columns, found once for all steps: this project's own.
use Rattle.std.specs.Prelude.{ℕ, suc, ◌+◌, ℤ, Bool, true, false, cond, Option, Some, None, List, [], ◌∷◌, map, filter, length, nat_eq}
use Rattle.pf_base.specs.Arithmetic.{clamp}
use Rattle.pf_base.specs.LabelSets.{Pairs}
use Rattle.pf_model.specs.declared.cell.Element.{Element}
use Rattle.pf_model.specs.declared.functions.AggOp.{AggOp}
use Rattle.pf_model.specs.declared.functions.AggOp.TheVariants.{Sum, Avg, Min, Max, Count, Group, Topk, Bottomk, Quantile}
use Rattle.pf_model.specs.Aggregation.{quantile}
use Rattle.pf_model.specs.Cells.{distinct, element, values_of}
use Rattle.pf_model.specs.Lists.{joined}
use Rattle.pf_model.specs.Merging.{below}
use Rattle.pf_model.specs.Micros.{greatest, least, mean, one, total, units}
use Rattle.pf_model.specs.Selection.{same_labels}
use Rattle.pf_columns.specs.Columns.{ColumnData, cell_at, columns_labels, value_in}
use Rattle.pf_columns.specs.declared.aggregate.GroupFn.{GroupFn}
use Rattle.pf_columns.specs.declared.aggregate.GroupFn.TheVariants as function
use Rattle.pf_columns.specs.declared.aggregate.GroupOp.{GroupOp}
use Rattle.pf_columns.specs.declared.aggregate.GroupOp.TheVariants as each

-- the place of a label set among some
abbrev pub place_in : List Pairs → Pairs → ℕ
place_in [] l = 0
place_in (m ∷ ms) l = cond (same_labels l m) 0 (suc (place_in ms l))

-- keys, and for each of some label sets the place of its key
pub record GroupsData : Type 0 where
  pub keys : List Pairs
  pub of : List ℕ

-- the keys of label sets, each once, in label order
abbrev pub keys_by : (Pairs → Pairs) → List Pairs → List Pairs
keys_by key ls = distinct (map key ls)

abbrev pub groups_by : (Pairs → Pairs) → List Pairs → GroupsData
groups_by key ls = record { keys = keys_by key ls; of = map (place_in (keys_by key ls)) (map key ls) }

-- label sets without those that are equal to the one before
abbrev pub is_again : Option Pairs → Pairs → Bool
is_again None l = false
is_again (Some m) l = same_labels m l

abbrev pub unrepeated : Option Pairs → List Pairs → List Pairs
unrepeated o [] = []
unrepeated o (l ∷ ls) = cond (is_again o l) (unrepeated (Some l) ls) (l ∷ unrepeated (Some l) ls)

-- an aggregation that has a parameter
abbrev pub has_parameter : AggOp → Bool
has_parameter Topk = true
has_parameter Bottomk = true
has_parameter Quantile = true
has_parameter op = false

-- what is computed of the values of each group
abbrev pub operator : GroupOp → AggOp
operator each.Sum = Sum
operator each.Avg = Avg
operator each.Min = Min
operator each.Max = Max
operator each.Count = Count
operator each.Group = Group

abbrev pub group_value : GroupOp → List ℤ → ℤ
group_value each.Sum vs = clamp (total vs)
group_value each.Avg vs = mean vs
group_value each.Min vs = least vs
group_value each.Max vs = greatest vs
group_value each.Count vs = units (length vs)
group_value each.Group vs = one

-- what is found of the values of a group, none where it has none
abbrev pub found_of : (List ℤ → ℤ) → List ℤ → Option ℤ
found_of f [] = None
found_of f (v ∷ vs) = Some (f (v ∷ vs))

-- the columns whose key is a label set
abbrev pub members : (Pairs → Pairs) → Pairs → List ColumnData → List ColumnData
members key l cs = filter (λ c. same_labels (key c.labels) l) cs

-- the groups at a step: the keys are those of all columns, whether they have a value there or not
abbrev pub grouped_at : (List ℤ → ℤ) → (Pairs → Pairs) → List ColumnData → ℕ → List Element
grouped_at f key cs k = joined (λ l. element l (found_of f (values_of (cell_at (members key l cs) k)))) (keys_by key (columns_labels cs))

-- the value at a share of the places of the sorted values of a group, none without a parameter
abbrev pub quantile_of : Option ℤ → List ℤ → Option ℤ
quantile_of None vs = None
quantile_of (Some q) vs = found_of (quantile q) vs

-- what is found of the values of a group at a step
abbrev pub found_at : GroupFn → ℕ → List ℤ → Option ℤ
found_at (function.Each op) k vs = found_of (group_value op) vs
found_at (function.Quantile params) k vs = quantile_of (value_in params.now k) vs

-- the column of a group, of what is found at each step
abbrev pub group_column : (ℕ → List ℤ → Option ℤ) → (Pairs → Pairs) → List ColumnData → ℕ → Pairs → ColumnData
group_column f key cs n l = record { labels = l; values = below (λ k. f k (values_of (cell_at (members key l cs) k))) n }

-- the columns at a place
abbrev pub those_of : ℕ → List ℕ → List ColumnData → List ColumnData
those_of g [] cs = []
those_of g (o ∷ os) [] = []
those_of g (o ∷ os) (c ∷ cs) = cond (nat_eq o g) (c ∷ those_of g os cs) (those_of g os cs)

-- the columns of groups by their places, the first of which is g
abbrev pub id_columns : (ℕ → List ℤ → Option ℤ) → List ℕ → List ColumnData → ℕ → ℕ → List Pairs → List ColumnData
id_columns f os cs n g [] = []
id_columns f os cs n g (l ∷ ls) =
    record { labels = l; values = below (λ k. f k (values_of (cell_at (those_of g os cs) k))) n } ∷ id_columns f os cs n (g + 1) ls

-- a column of each bucket
abbrev pub bucket_columns : (ℕ → List ℤ → Option ℤ) → List (List ColumnData) → ℕ → List Pairs → List ColumnData
bucket_columns f bs n [] = []
bucket_columns f [] n (l ∷ ls) = []
bucket_columns f (b ∷ bs) n (l ∷ ls) =
    record { labels = l; values = below (λ k. f k (values_of (cell_at b k))) n } ∷ bucket_columns f bs n ls
