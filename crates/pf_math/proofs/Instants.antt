-- What the functions give, as vectors and as the values of a query.
use Rattle.std.proofs.Common.{◌≡◌, ℤ, true, Option, Some, None, List, [], ◌∷◌, map, refl, sym, ap, ◌∙◌}
use Rattle.pf_base.specs.LabelSets.{Pairs}
use Rattle.pf_model.specs.declared.cell.Element.{Element}
use Rattle.pf_model.specs.declared.cell.StepCell.{StepCell}
use Rattle.pf_model.specs.declared.cell.StepCell.TheVariants.{Good, Bad}
use Rattle.pf_model.specs.declared.functions.InstantFn.{InstantFn}
use Rattle.pf_model.specs.declared.functions.InstantFn.TheVariants as function
use Rattle.pf_model.specs.Cells.{cell_of, element}
use Rattle.pf_model.specs.InstantFunctions.{Beside, absent_of, each_value, instant_function}
use Rattle.pf_model.specs.Outcomes.{of_cell, of_elements, step_cell}
use Rattle.pf_math.specs.declared.values.Change.{Change}
use Rattle.pf_math.specs.declared.relabelling.Relabelling.{Relabelling}
use Rattle.pf_math.specs.EachValue.{IsOfEachValue, changed, is_each_value, value_by}
use Rattle.pf_math.specs.Relabelling.{IsOfEachLabels, is_relabelling, labels_by, relabels}

-- a cell as an outcome, and back
there_and_back : (c : StepCell) → step_cell (of_cell c) ≡ c
there_and_back (Good es) = refl
there_and_back (Bad kind) = refl

pub each_outcome : (f : InstantFn) (es : List Element) → is_each_value f ≡ true → step_cell (of_elements f es) ≡ cell_of es
each_outcome function.Abs es h = there_and_back (cell_of es)
each_outcome function.Ceil es h = there_and_back (cell_of es)
each_outcome function.Floor es h = there_and_back (cell_of es)
each_outcome function.Sgn es h = there_and_back (cell_of es)
each_outcome function.Round es h = there_and_back (cell_of es)
each_outcome function.Clamp es h = there_and_back (cell_of es)
each_outcome function.ClampMin es h = there_and_back (cell_of es)
each_outcome function.ClampMax es h = there_and_back (cell_of es)
each_outcome function.Timestamp es h = there_and_back (cell_of es)
each_outcome function.Absent es h = cc
each_outcome function.Scalar es h = cc
each_outcome function.Vector es h = cc
each_outcome function.Time es h = cc
each_outcome function.LabelReplace es h = cc
each_outcome function.LabelJoin es h = cc

pub relabelled_outcome : (f : InstantFn) (es : List Element) → is_relabelling f ≡ true → step_cell (of_elements f es) ≡ cell_of es
relabelled_outcome function.LabelReplace es h = there_and_back (cell_of es)
relabelled_outcome function.LabelJoin es h = there_and_back (cell_of es)
relabelled_outcome function.Abs es h = cc
relabelled_outcome function.Ceil es h = cc
relabelled_outcome function.Floor es h = cc
relabelled_outcome function.Sgn es h = cc
relabelled_outcome function.Round es h = cc
relabelled_outcome function.Clamp es h = cc
relabelled_outcome function.ClampMin es h = cc
relabelled_outcome function.ClampMax es h = cc
relabelled_outcome function.Absent es h = cc
relabelled_outcome function.Scalar es h = cc
relabelled_outcome function.Vector es h = cc
relabelled_outcome function.Time es h = cc
relabelled_outcome function.Timestamp es h = cc

-- ---- cells

pub each_cell_is : (f : InstantFn) (b : Beside) (es : List Element) (change : Change) → IsOfEachValue f
    → ((v : ℤ) → changed change v ≡ value_by f b.scalars b.time v) → cell_of (each_value (changed change) es) ≡ cell_of (instant_function f b es)
each_cell_is f b es change law h = (λ i. cell_of (each_value (λ v. h v i) es)) ∙ sym (ap cell_of (law b es))

pub relabelled_cell_is : (f : InstantFn) (b : Beside) (es : List Element) (r : Relabelling) → IsOfEachLabels f
    → ((ls : Pairs) → relabels r ls ≡ labels_by f b.expand b.texts ls)
    → cell_of (map (λ e. record { labels = relabels r e.labels; value = e.value }) es) ≡ cell_of (instant_function f b es)
relabelled_cell_is f b es r law h =
    (λ i. cell_of (map (λ e. record { labels = h e.labels i; value = e.value }) es)) ∙ sym (ap cell_of (law b es))

-- ---- scalars and `absent`

pub absent_outcome : (labels : Pairs) (es : List Element) → Good (absent_of labels es) ≡ step_cell (of_elements function.Absent (absent_of labels es))
absent_outcome labels [] = refl
absent_outcome labels (e ∷ es) = refl

pub scalar_outcome : (o : Option ℤ) → Good (element [] o) ≡ step_cell (of_elements function.Scalar (element [] o))
scalar_outcome None = refl
scalar_outcome (Some v) = refl

pub time_outcome : (o : Option ℤ) → Good (element [] o) ≡ step_cell (of_elements function.Time (element [] o))
time_outcome None = refl
time_outcome (Some v) = refl

pub vector_outcome : (o : Option ℤ) → Good (element [] o) ≡ step_cell (of_elements function.Vector (element [] o))
vector_outcome None = refl
vector_outcome (Some v) = refl
