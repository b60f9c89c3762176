-- What the nodes of a query are over a run of steps, as columns: this project's own.
use Rattle.std.specs.Prelude.{ℕ, ℤ, neg_ℤ, Bool, true, false, Option, Some, None, List, [], ◌∷◌, map}
use Rattle.pf_base.specs.declared.plain.Row.{Row}
use Rattle.pf_base.specs.LabelSets.{Pairs}
use Rattle.pf_model.specs.declared.cell.Element.{Element}
use Rattle.pf_model.specs.declared.cell.ErrorKind.{ErrorKind}
use Rattle.pf_model.specs.Cells.{element, without_name}
use Rattle.pf_model.specs.Evaluation.{outcome, outcomes}
use Rattle.pf_model.specs.Lists.{joined}
use Rattle.pf_model.specs.Matching.{operated, result_labels}
use Rattle.pf_model.specs.Merging.{below}
use Rattle.pf_model.specs.Outcomes.{Outcome, scalar, text, bad, of_cell}
use Rattle.pf_model.specs.Trees.{Tree, Trees}
use Rattle.pf_columns.specs.Columns.{ColumnData, value_in}
use Rattle.pf_columns.specs.Steps.{StepsData, bad_in, step_at}
use Rattle.pf_eval.specs.declared.node.Node.{Node}
use Rattle.pf_eval.specs.declared.node.Node.TheVariants as node
use Rattle.pf_eval.specs.declared.change.Change.{Change}
use Rattle.pf_eval.specs.declared.change.Change.TheVariants as change

-- a scalar, or the error of a step
abbrev pub scalar_unless : Option ErrorKind → Option ℤ → Outcome
scalar_unless None v = scalar v
scalar_unless (Some kind) v = bad kind

-- what a node is at a step
abbrev pub node_at : Node → ℕ → Outcome
node_at (node.Scalar s) k = scalar_unless (bad_in s.bads.items k) (value_in s.values.items k)
node_at (node.Vector s) k = of_cell (step_at s k)
node_at (node.Text t) k = text t

abbrev pub nodes_at : List Node → ℕ → List Outcome
nodes_at ns k = map (λ n. node_at n k) ns

-- the texts among nodes
abbrev pub texts_in : List Node → List (List ℕ)
texts_in [] = []
texts_in (node.Scalar s ∷ ns) = texts_in ns
texts_in (node.Vector s ∷ ns) = texts_in ns
texts_in (node.Text t ∷ ns) = t ∷ texts_in ns

abbrev pub is_text : Node → Bool
is_text (node.Scalar s) = false
is_text (node.Vector s) = false
is_text (node.Text t) = true

-- what a tree is at a time
abbrev pub meant : List Row → Tree → ℤ → Outcome
meant samples tree t = outcome samples tree t

abbrev pub all_meant : List Row → Trees → ℤ → List Outcome
all_meant samples trees t = outcomes samples trees t

-- a value, where there is one, changed
abbrev pub onto : Option ℤ → (ℤ → Option ℤ) → Option ℤ
onto None f = None
onto (Some v) f = f v

-- a column with other labels, and other values at the first n steps
abbrev pub changed : (Pairs → Pairs) → (ℕ → ℤ → Option ℤ) → ℕ → ColumnData → ColumnData
changed g f n c = record { labels = g c.labels; values = below (λ k. onto (value_in c.values k) (f k)) n }

-- the value of a change beside a scalar
abbrev pub applied : Change → Option ℤ → ℤ → Option ℤ
applied change.Negation s v = Some (neg_ℤ v)
applied (change.Left op) None v = None
applied (change.Left op) (Some a) v = operated op v a v
applied (change.Right op) None v = None
applied (change.Right op) (Some b) v = operated op v v b

abbrev pub labelled : Change → Pairs → Pairs
labelled change.Negation l = without_name l
labelled (change.Left op) l = result_labels op l
labelled (change.Right op) l = result_labels op l

-- the elements changed
abbrev pub altered : Change → Option ℤ → List Element → List Element
altered c s es = joined (λ e. element (labelled c e.labels) (applied c s e.value)) es

-- the vector that a node is, none where it is no vector; the errors of a scalar are kept
abbrev pub steps_in : Node → StepsData
steps_in (node.Scalar s) = record { columns = []; bads = s.bads.items }
steps_in (node.Vector s) = s
steps_in (node.Text t) = record { columns = []; bads = [] }

-- the first of two errors
abbrev pub first_of : Option ErrorKind → Option ErrorKind → Option ErrorKind
first_of None b = b
first_of (Some kind) b = Some kind
