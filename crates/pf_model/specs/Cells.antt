-- Vectors: elements in label order. Prometheus, Querying basics: Expression language data types; that two elements with
-- equal labels are an error is Prometheus's too. The order is this project's own.
use Rattle.std.specs.Prelude.{ℤ, Bool, false, ◌||◌, cond, Option, Some, None, List, [], ◌∷◌, map, filter}
use Rattle.std.specs.List.{list_any}
use Rattle.std.specs.declared.cmp.Ordering.{Ordering}
use Rattle.std.specs.declared.cmp.Ordering.TheVariants.{Less, Equal, Greater}
use Rattle.pf_base.specs.LabelSets.{Pairs}
use Rattle.pf_base.specs.LabelOrder.{labels_cmp}
use Rattle.pf_base.specs.LabelChanges.{metric_name, others}
use Rattle.pf_base.specs.Sorting.{isort}
use Rattle.pf_base.specs.declared.plain.Sample.{Sample}
use Rattle.pf_model.specs.declared.cell.Element.{Element}
use Rattle.pf_model.specs.declared.cell.StepCell.{StepCell}
use Rattle.pf_model.specs.declared.cell.StepCell.TheVariants.{Good, Bad}
use Rattle.pf_model.specs.declared.cell.ErrorKind.TheVariants.{DoubleLabels}
use Rattle.pf_model.specs.Lists.{joined}
use Rattle.pf_model.specs.Selection.{same_labels}

-- a label set put into a list in label order, where it isn't there yet
abbrev pub placed : Ordering → Pairs → Pairs → List Pairs → List Pairs → List Pairs
placed Less l m ms behind = l ∷ m ∷ ms
placed Equal l m ms behind = m ∷ ms
placed Greater l m ms behind = m ∷ behind

abbrev pub put : Pairs → List Pairs → List Pairs
put l [] = l ∷ []
put l (m ∷ ms) = placed (labels_cmp l m) l m ms (put l ms)

-- label sets, each once, in label order
abbrev pub distinct : List Pairs → List Pairs
distinct [] = []
distinct (l ∷ ls) = put l (distinct ls)

-- two of them are equal
abbrev pub has_equal : List Pairs → Bool
has_equal [] = false
has_equal (l ∷ ls) = list_any (same_labels l) ls || has_equal ls

abbrev pub without_name : Pairs → Pairs
without_name = others metric_name

abbrev pub labels_of : List Element → List Pairs
labels_of es = map (λ e. e.labels) es

abbrev pub values_of : List Element → List ℤ
values_of es = map (λ e. e.value) es

-- the label sets that occur in vectors, each once, in label order
abbrev pub occurring : {X : Type 0} → (X → List Element) → List X → List Pairs
occurring vector xs = distinct (joined (λ x. labels_of (vector x)) xs)

-- the samples of a label set in vectors, each at its time
abbrev pub samples_of : {X : Type 0} → (X → ℤ) → (X → List Element) → Pairs → List X → List Sample
samples_of time vector l xs =
    joined (λ x. map (λ e. record { time = time x; value = e.value }) (filter (λ e. same_labels e.labels l) (vector x))) xs

-- an element, or none without a value
abbrev pub element : Pairs → Option ℤ → List Element
element labels None = []
element labels (Some v) = record { labels = labels; value = v } ∷ []

abbrev pub element_cmp : Element → Element → Ordering
element_cmp e f = labels_cmp e.labels f.labels

abbrev pub in_label_order : List Element → List Element
in_label_order = isort element_cmp

-- what a node gives: its elements in label order, where no two have equal labels
abbrev pub cell_of : List Element → StepCell
cell_of es = cond (has_equal (labels_of es)) (Bad DoubleLabels) (Good (in_label_order es))
