-- What a node of a query is at a time, from what its children are. Prometheus, Querying basics: Expression language data
-- types; Operators; Query functions. The order of errors is this project's own.
use Rattle.std.specs.Prelude.{ℕ, ℤ, neg_ℤ, Bool, cond, Option, Some, option_map, List, [], ◌∷◌}
use Rattle.pf_base.specs.declared.plain.Sample.{Sample}
use Rattle.pf_base.specs.LabelSets.{Pairs}
use Rattle.pf_model.specs.declared.cell.Element.{Element}
use Rattle.pf_model.specs.declared.cell.ErrorKind.{ErrorKind}
use Rattle.pf_model.specs.declared.cell.StepCell.{StepCell}
use Rattle.pf_model.specs.declared.cell.StepCell.TheVariants.{Good, Bad}
use Rattle.pf_model.specs.declared.expr.BinaryOp.{BinaryOp}
use Rattle.pf_model.specs.declared.functions.AggOp.{AggOp}
use Rattle.pf_model.specs.declared.functions.InstantFn.{InstantFn}
use Rattle.pf_model.specs.declared.functions.InstantFn.TheVariants.{Scalar, Time}
use Rattle.pf_model.specs.declared.functions.RangeFn.{RangeFn}
use Rattle.pf_model.specs.declared.functions.RangeFn.TheVariants.{AbsentOverTime}
use Rattle.pf_model.specs.Aggregation.{aggregate}
use Rattle.pf_model.specs.Cells.{element, without_name, cell_of}
use Rattle.pf_model.specs.Clauses.{Grouped, Matched}
use Rattle.pf_model.specs.InstantFunctions.{Beside, instant_function, each_value, only_value, first_scalar}
use Rattle.pf_model.specs.Lists.{joined}
use Rattle.pf_model.specs.Matching.{of_scalars, scalar_left, scalar_right, join}
use Rattle.pf_model.specs.RangeFunctions.{range_function, keeps_name}

-- the samples of one label set, by time
pub record Series : Type 0 where
  pub labels : Pairs
  pub samples : List Sample

-- a scalar, which may have no value; an instant vector; a range vector, with the ends of its window; a string; an error
pub data Outcome : Type 0 where
  scalar : Option ℤ → Outcome
  elements : List Element → Outcome
  ranges : (from : ℤ) → (to : ℤ) → List Series → Outcome
  text : List ℕ → Outcome
  bad : ErrorKind → Outcome

-- as the value of a query: a scalar is an element without labels, or none; a range vector and a string are no value of one
abbrev pub step_cell : Outcome → StepCell
step_cell (scalar v) = Good (element [] v)
step_cell (elements es) = Good es
step_cell (ranges from to ss) = Good []
step_cell (text bytes) = Good []
step_cell (bad kind) = Bad kind

abbrev pub of_cell : StepCell → Outcome
of_cell (Good es) = elements es
of_cell (Bad kind) = bad kind

-- the error of the first that has one, else the value
abbrev pub first_bad : List Outcome → Outcome → Outcome
first_bad [] value = value
first_bad (bad kind ∷ os) value = bad kind
first_bad (o ∷ os) value = first_bad os value

-- the vector, the scalars and the texts among a call's arguments
abbrev pub vector_of : List Outcome → List Element
vector_of [] = []
vector_of (elements es ∷ os) = es
vector_of (o ∷ os) = vector_of os

abbrev pub scalars_of : List Outcome → List (Option ℤ)
scalars_of [] = []
scalars_of (scalar v ∷ os) = v ∷ scalars_of os
scalars_of (o ∷ os) = scalars_of os

abbrev pub texts_of : List Outcome → List (List ℕ)
texts_of [] = []
texts_of (text bytes ∷ os) = bytes ∷ texts_of os
texts_of (o ∷ os) = texts_of os

-- a minus; a plus changes nothing
abbrev pub negated : Outcome → Outcome
negated (scalar v) = scalar (option_map neg_ℤ v)
negated (elements es) = of_cell (cell_of (each_value (λ v. Some (neg_ℤ v)) es))
negated o = o

abbrev pub signed : Bool → Outcome → Outcome
signed minus o = cond minus (negated o) o

abbrev pub of_operands : BinaryOp → Matched → Outcome → Outcome → Outcome
of_operands op m (scalar a) (scalar b) = scalar (of_scalars op a b)
of_operands op m (scalar a) (elements es) = of_cell (cell_of (scalar_left op a es))
of_operands op m (elements es) (scalar b) = of_cell (cell_of (scalar_right op es b))
of_operands op m (elements ls) (elements rs) = of_cell (join op m ls rs)
of_operands op m left right = left

abbrev pub operation : BinaryOp → Matched → Outcome → Outcome → Outcome
operation op m left right = first_bad (left ∷ right ∷ []) (of_operands op m left right)

-- a function of each series; `absent` are the labels that `absent_over_time` gives
abbrev pub ranged_labels : RangeFn → Pairs → Pairs
ranged_labels f labels = cond (keeps_name f) labels (without_name labels)

abbrev pub of_series : RangeFn → Pairs → ℤ → ℤ → List Series → List Element
of_series AbsentOverTime absent from to ss =
    element absent (range_function AbsentOverTime (joined (λ s. s.samples) ss) from to)
of_series f absent from to ss =
    joined (λ s. element (ranged_labels f s.labels) (range_function f s.samples from to)) ss

abbrev pub of_ranges : RangeFn → Pairs → List Outcome → Outcome
of_ranges f absent (ranges from to ss ∷ os) = of_cell (cell_of (of_series f absent from to ss))
of_ranges f absent os = elements []

abbrev pub range_call : RangeFn → Pairs → List Outcome → Outcome
range_call f absent args = first_bad args (of_ranges f absent args)

-- `scalar` and `time` give a scalar, the other functions a vector
abbrev pub of_elements : InstantFn → List Element → Outcome
of_elements Scalar es = scalar (only_value es)
of_elements Time es = scalar (only_value es)
of_elements f es = of_cell (cell_of es)

abbrev pub instant_call : InstantFn → Beside → List Outcome → Outcome
instant_call f beside args = first_bad args (of_elements f (instant_function f beside (vector_of args)))

abbrev pub aggregation : AggOp → Grouped → List Outcome → Outcome
aggregation op g args =
    first_bad args (elements (aggregate op g.without g.labels (first_scalar (scalars_of args)) (vector_of args)))
