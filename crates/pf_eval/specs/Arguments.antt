-- What a call reads of its arguments over a run of steps: this project's own.
use Rattle.std.specs.Prelude.{◌≡◌, ◌<◌, ℕ, ℤ, Option, Some, None, List, [], ◌∷◌, ◌++◌, map, Vec}
use Rattle.std.specs.Global.{Global}
use Rattle.pf_model.specs.declared.cell.ErrorKind.{ErrorKind}
use Rattle.pf_model.specs.Outcomes.{Outcome, bad, first_bad, scalars_of, texts_of, vector_of}
use Rattle.pf_columns.specs.Columns.{AreRising, ColumnData, cell_at, columns_labels, value_in}
use Rattle.pf_columns.specs.Steps.{bad_in}
use Rattle.pf_eval.specs.declared.arguments.Arguments.{Arguments}
use Rattle.pf_eval.specs.declared.arguments.Splitting.{Splitting}
use Rattle.pf_eval.specs.declared.node.Node.{Node}
use Rattle.pf_eval.specs.declared.node.Node.TheVariants as node
use Rattle.pf_eval.specs.Nodes.{first_of, nodes_at, texts_in}

-- an error, or else an outcome
abbrev pub outcome_unless : Option ErrorKind → Outcome → Outcome
outcome_unless None o = o
outcome_unless (Some kind) o = bad kind

-- what a call reads of these nodes at the first steps: the first error, and where there is none the vector and the scalars;
-- the texts are the same at each step
pub record AreArguments (len : ℕ) (ns : List Node) (a : Arguments) : Type 0 where
  pub bads : (k : ℕ) (o : Outcome) → k < len → first_bad (nodes_at ns k) o ≡ outcome_unless (bad_in a.bads.items k) o
  pub vector : (k : ℕ) → k < len → bad_in a.bads.items k ≡ None → vector_of (nodes_at ns k) ≡ cell_at a.columns.items k
  pub scalars : (k : ℕ) → k < len → bad_in a.bads.items k ≡ None → scalars_of (nodes_at ns k) ≡ map (λ vs. value_in vs.items k) a.scalars.items
  pub texts : (k : ℕ) → texts_of (nodes_at ns k) ≡ a.texts.items
  pub texts_in : texts_in ns ≡ a.texts.items
  pub rising : AreRising (columns_labels a.columns.items)

-- the error of a node at a step
abbrev pub bad_at : Node → ℕ → Option ErrorKind
bad_at (node.Scalar s) k = bad_in s.bads.items k
bad_at (node.Vector s) k = bad_in s.bads k
bad_at (node.Text t) k = None

-- the first error of a step
abbrev pub error_at : List Node → ℕ → Option ErrorKind
error_at [] k = None
error_at (n ∷ ns) k = first_of (bad_at n k) (error_at ns k)

-- the columns of the first vector, or else others
abbrev pub columns_or : Node → List ColumnData → List ColumnData
columns_or (node.Scalar s) cs = cs
columns_or (node.Vector s) cs = s.columns
columns_or (node.Text t) cs = cs

abbrev pub columns_in : List Node → List ColumnData
columns_in [] = []
columns_in (n ∷ ns) = columns_or n (columns_in ns)

-- the values of a scalar
abbrev pub scalar_in : Node → List (List (Option ℤ))
scalar_in (node.Scalar s) = s.values.items ∷ []
scalar_in (node.Vector s) = []
scalar_in (node.Text t) = []

abbrev pub scalars_in : List Node → List (List (Option ℤ))
scalars_in [] = []
scalars_in (n ∷ ns) = scalar_in n ++ scalars_in ns

-- the columns that are read, or else others
abbrev pub vector_or : Option (Vec ColumnData Global) → List ColumnData → List ColumnData
vector_or None cs = cs
vector_or (Some v) cs = v.items

abbrev pub IsRising : Option (Vec ColumnData Global) → Type 0
IsRising v = AreRising (columns_labels (vector_or v []))

-- what is read so far, and what the rest gives, are what all give
pub record Splits (len : ℕ) (all : List Node) (s : Splitting) (rest : List Node) : Type 0 where
  pub bads : (k : ℕ) → k < len → first_of (bad_in s.bads.items k) (error_at rest k) ≡ error_at all k
  pub vector : vector_or s.vector (columns_in rest) ≡ columns_in all
  pub scalars : map (λ v. v.items) s.scalars.items ++ scalars_in rest ≡ scalars_in all
  pub texts : s.texts.items ++ texts_in rest ≡ texts_in all
  pub rising : IsRising s.vector
