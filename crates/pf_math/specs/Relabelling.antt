-- `label_replace` and `label_join` on one label set. Prometheus, Query functions.
use Rattle.std.specs.Prelude.{◌≡◌, ℕ, Bool, true, false, Option, Some, List, [], ◌∷◌, map}
use Rattle.pf_base.specs.LabelSets.{Pairs, is_label_name, value_of}
use Rattle.pf_model.specs.declared.cell.Element.{Element}
use Rattle.pf_model.specs.declared.functions.InstantFn.{InstantFn}
use Rattle.pf_model.specs.declared.functions.InstantFn.TheVariants.{LabelReplace, LabelJoin}
use Rattle.pf_match.specs.Meaning.{expand}
use Rattle.pf_model.specs.InstantFunctions.{Beside, instant_function, joined_by, relabelled}
use Rattle.pf_math.specs.declared.relabelling.Relabelling.{Relabelling}
use Rattle.pf_math.specs.declared.relabelling.Relabelling.TheVariants as relabelling
use Rattle.pf_math.specs.LabelTexts.{ReplacementData, JoinData}

abbrev pub is_relabelling : InstantFn → Bool
is_relabelling LabelReplace = true
is_relabelling LabelJoin = true
is_relabelling f = false

-- the texts are the target, the replacement and the source; fewer change nothing
abbrev pub replaced : (List ℕ → List ℕ → Option (List ℕ)) → List (List ℕ) → Pairs → Pairs
replaced expand (target ∷ replacement ∷ source ∷ rest) labels = relabelled target (expand (value_of labels source) replacement) labels
replaced expand texts labels = labels

-- the values of the sources with the separator between them
abbrev pub joined_values : List ℕ → List (List ℕ) → Pairs → List ℕ
joined_values separator sources labels = joined_by separator (map (value_of labels) sources)

-- the texts are the target, the separator and the sources
abbrev pub joined_labels : List (List ℕ) → Pairs → Pairs
joined_labels (target ∷ separator ∷ sources) labels = relabelled target (Some (joined_values separator sources labels)) labels
joined_labels texts labels = labels

abbrev pub labels_by : InstantFn → (List ℕ → List ℕ → Option (List ℕ)) → List (List ℕ) → Pairs → Pairs
labels_by LabelReplace expand texts labels = replaced expand texts labels
labels_by LabelJoin expand texts labels = joined_labels texts labels
labels_by f expand texts labels = labels

abbrev pub relabelled_element : InstantFn → Beside → Element → Element
relabelled_element f b e = record { labels = labels_by f b.expand b.texts e.labels; value = e.value }

-- the function of a vector is this change of each label set
abbrev pub IsOfEachLabels : InstantFn → Type 0
IsOfEachLabels f = (b : Beside) (es : List Element) → instant_function f b es ≡ map (relabelled_element f b) es

-- the first text is a label name
abbrev pub begins_with_name : List (List ℕ) → Bool
begins_with_name [] = true
begins_with_name (target ∷ rest) = is_label_name target

-- what a function needs of its texts: the label that `label_replace` and `label_join` set has a lawful name
abbrev pub has_lawful_target : InstantFn → List (List ℕ) → Bool
has_lawful_target LabelReplace texts = begins_with_name texts
has_lawful_target LabelJoin texts = begins_with_name texts
has_lawful_target f texts = true

-- what is done to one label set
abbrev pub replaces : ReplacementData → Pairs → Pairs
replaces r labels = relabelled r.target (expand r.pattern (value_of labels r.source) r.template) labels

abbrev pub joins : JoinData → Pairs → Pairs
joins j labels = relabelled j.target (Some (joined_values j.separator j.sources labels)) labels

abbrev pub relabels : Relabelling → Pairs → Pairs
relabels (relabelling.Replace r) labels = replaces r labels
relabels (relabelling.Join j) labels = joins j labels
relabels relabelling.Keep labels = labels
