-- The columns of an operator between two vectors: those of pairs of columns that match, and those of columns with or without
-- a match. Prometheus, Operators: Vector matching. That they are made of columns is this project's own.
use Rattle.std.specs.Prelude.{ℕ, ℤ, Bool, true, false, not, ◌&&◌, ◌||◌, Option, Some, None, List, [], ◌∷◌, ◌++◌, map, filter}
use Rattle.pf_base.specs.LabelSets.{Pairs}
use Rattle.pf_model.specs.declared.cell.ErrorKind.{ErrorKind}
use Rattle.pf_model.specs.declared.expr.BinaryOp.{BinaryOp}
use Rattle.pf_model.specs.declared.expr.Side.{Side}
use Rattle.pf_model.specs.declared.expr.Side.TheVariants as side
use Rattle.pf_model.specs.declared.functions.Sign.{Sign}
use Rattle.pf_model.specs.declared.functions.Sign.TheVariants.{And, Or, Unless}
use Rattle.pf_model.specs.Cells.{has_equal}
use Rattle.pf_model.specs.Clauses.{Matched}
use Rattle.pf_model.specs.Lists.{joined}
use Rattle.pf_model.specs.Matching.{matching_key, operated, result_labels}
use Rattle.pf_model.specs.Merging.{below}
use Rattle.pf_model.specs.Outcomes.{Outcome, bad}
use Rattle.pf_model.specs.Selection.{same_labels}
use Rattle.pf_columns.specs.Columns.{ColumnData, columns_labels, value_in}
use Rattle.pf_join.specs.Results.{labels_of_pair}

abbrev pub column_keys : Matched → List ColumnData → List Pairs
column_keys m cs = map (λ c. matching_key m c.labels) cs

-- the columns that match a key
abbrev pub partners : Matched → Pairs → List ColumnData → List ColumnData
partners m key cs = filter (λ c. same_labels key (matching_key m c.labels)) cs

-- a function of two values, where both are there
abbrev pub both : (ℤ → ℤ → Option ℤ) → Option ℤ → Option ℤ → Option ℤ
both f (Some a) (Some b) = f a b
both f a b = None

-- an operator between two elements' values
abbrev pub between : BinaryOp → ℤ → ℤ → Option ℤ
between op a b = operated op a a b

abbrev pub pair_by : (ℤ → ℤ → Option ℤ) → BinaryOp → Matched → ℕ → ColumnData → ColumnData → ColumnData
pair_by f op m n c d = record {
  labels = result_labels op (labels_of_pair m c.labels d.labels);
  values = below (λ k. both f (value_in c.values k) (value_in d.values k)) n;
}

-- the columns of a column with its partners
abbrev pub zipped_with : (ℤ → ℤ → Option ℤ) → BinaryOp → Matched → ℕ → List ColumnData → ColumnData → List ColumnData
zipped_with f op m n rs c = map (pair_by f op m n c) (partners m (matching_key m c.labels) rs)

abbrev pub zipped_by : (ℤ → ℤ → Option ℤ) → BinaryOp → Matched → ℕ → List ColumnData → List ColumnData → List ColumnData
zipped_by f op m n ls rs = joined (zipped_with f op m n rs) ls

abbrev pub zipped : BinaryOp → Matched → ℕ → List ColumnData → List ColumnData → List ColumnData
zipped op m n ls rs = zipped_by (between op) op m n ls rs

-- no two keys of the one side are equal, nor two of the other; where that is the many side, no two results have equal labels
abbrev pub are_apart : Side → (left_keys right_keys labels : List Pairs) → Bool
are_apart side.One left_keys right_keys labels = not (has_equal right_keys) && not (has_equal left_keys)
are_apart side.Left left_keys right_keys labels = not (has_equal right_keys) && not (has_equal labels)
are_apart side.Right left_keys right_keys labels = not (has_equal left_keys) && not (has_equal labels)

abbrev pub are_single : Matched → List ColumnData → List ColumnData → List ColumnData → Bool
are_single m ls rs pairs = are_apart m.side (column_keys m ls) (column_keys m rs) (columns_labels pairs)

abbrev pub is_set_sign : Sign → Bool
is_set_sign And = true
is_set_sign Or = true
is_set_sign Unless = true
is_set_sign sign = false

-- some column has a value at a step
abbrev pub is_there : Option ℤ → Bool
is_there None = false
is_there (Some v) = true

abbrev pub are_there : List ColumnData → ℕ → Bool
are_there [] k = false
are_there (c ∷ cs) k = is_there (value_in c.values k) || are_there cs k

-- a value that is kept or left out
abbrev pub kept_if : Bool → Option ℤ → Option ℤ
kept_if true o = o
kept_if false o = None

-- whether a column's elements are kept: those with a match, or those without one
abbrev pub is_wanted : Bool → Bool → Bool
is_wanted true there = there
is_wanted false there = not there

abbrev pub met_among : Bool → ℕ → List ColumnData → ColumnData → ColumnData
met_among wanted n matches c = record {
  labels = c.labels;
  values = below (λ k. kept_if (is_wanted wanted (are_there matches k)) (value_in c.values k)) n;
}

abbrev pub met_column : Bool → Matched → ℕ → List ColumnData → ColumnData → ColumnData
met_column wanted m n others c = met_among wanted n (partners m (matching_key m c.labels) others) c

abbrev pub met : Bool → Matched → ℕ → List ColumnData → List ColumnData → List ColumnData
met wanted m n others cs = map (met_column wanted m n others) cs

-- the columns of `and`, `or` and `unless`
abbrev pub set_columns : Sign → Matched → ℕ → List ColumnData → List ColumnData → List ColumnData
set_columns And m n ls rs = met true m n rs ls
set_columns Or m n ls rs = ls ++ met false m n ls rs
set_columns Unless m n ls rs = met false m n rs ls
set_columns sign m n ls rs = []

-- the error that an outcome is
abbrev pub kind_of : Outcome → Option ErrorKind
kind_of (bad kind) = Some kind
kind_of o = None
