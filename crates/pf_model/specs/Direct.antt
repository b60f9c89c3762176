-- Direct evaluation of a query over its grid, and the matrix that is gathered. Prometheus, HTTP API: Range queries.
use Rattle.std.specs.Prelude.{ℕ, pos, Option, Some, None, List, [], ◌∷◌, map}
use Rattle.pf_base.specs.declared.plain.Row.{Row}
use Rattle.pf_base.specs.declared.plain.Sample.{Sample}
use Rattle.pf_base.specs.GridLists.{GridData}
use Rattle.pf_base.specs.Grids.{points}
use Rattle.pf_base.specs.LabelSets.{Pairs}
use Rattle.pf_model.specs.declared.cell.Element.{Element}
use Rattle.pf_model.specs.declared.cell.ErrorKind.{ErrorKind}
use Rattle.pf_model.specs.declared.cell.StepCell.{StepCell}
use Rattle.pf_model.specs.declared.cell.StepCell.TheVariants.{Good, Bad}
use Rattle.pf_model.specs.Cells.{occurring, samples_of}
use Rattle.pf_model.specs.Evaluation.{eval}
use Rattle.pf_model.specs.Trees.{Tree}

-- an asked query: its tree, the grid's ends put in, and its grid
pub record GridQuery : Type 0 where
  pub tree : Tree
  pub grid : GridData

-- a row of a matrix: a label set and its points by time
pub record MatrixRow : Type 0 where
  pub labels : Pairs
  pub points : List Sample

-- the elements of a step, with its time
pub record Step : Type 0 where
  pub time : ℕ
  pub elements : List Element

-- the answer of a query: the matrix, or the first step that has an error
pub data Answer : Type 0 where
  gathered : List MatrixRow → Answer
  failed : ℕ → ErrorKind → Answer

-- the points of one label set
abbrev pub points_of : Pairs → List Step → List Sample
points_of l steps = samples_of (λ s. pos s.time) (λ s. s.elements) l steps

-- for each label set that occurs its points
abbrev pub gather : List Step → List MatrixRow
gather steps = map (λ l. record { labels = l; points = points_of l steps }) (occurring (λ s. s.elements) steps)

-- a query at one time
pub record Evaluated : Type 0 where
  pub time : ℕ
  pub cell : StepCell

abbrev pub evaluated : List Row → Tree → List ℕ → List Evaluated
evaluated samples tree [] = []
evaluated samples tree (t ∷ ts) = record { time = t; cell = eval samples tree (pos t) } ∷ evaluated samples tree ts

-- the first step that has an error
pub record Failure : Type 0 where
  pub time : ℕ
  pub kind : ErrorKind

abbrev pub failure_at : ℕ → StepCell → Option Failure → Option Failure
failure_at t (Good cell) later = later
failure_at t (Bad kind) later = Some (record { time = t; kind = kind })

abbrev pub first_failure : List Evaluated → Option Failure
first_failure [] = None
first_failure (e ∷ es) = failure_at e.time e.cell (first_failure es)

abbrev pub elements_of : StepCell → List Element
elements_of (Good cell) = cell
elements_of (Bad kind) = []

abbrev pub steps_of : List Evaluated → List Step
steps_of [] = []
steps_of (e ∷ es) = record { time = e.time; elements = elements_of e.cell } ∷ steps_of es

abbrev pub answer_unless : Option Failure → List Step → Answer
answer_unless None steps = gathered (gather steps)
answer_unless (Some f) steps = failed f.time f.kind

-- what the values of a query at some times are together
abbrev pub answered : List Evaluated → Answer
answered cells = answer_unless (first_failure cells) (steps_of cells)

-- the direct evaluation of a query over samples: its value at each time of its grid
abbrev pub direct : List Row → GridQuery → Answer
direct samples asked = answered (evaluated samples asked.tree (points asked.grid))
