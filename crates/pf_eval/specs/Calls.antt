-- What an instant function reads and gives at a step of a run, from what is read of its arguments: this project's own.
use Rattle.std.specs.Prelude.{ℕ, ℤ, Bool, true, false, Option, Some, None, List, [], ◌∷◌, map, Vec, slice_index_or}
use Rattle.std.specs.Global.{Global}
use Rattle.std.specs.List.{list_any}
use Rattle.std.specs.Str.{bytes_eq}
use Rattle.pf_base.specs.LabelSets.{Pairs}
use Rattle.pf_model.specs.declared.cell.Element.{Element}
use Rattle.pf_model.specs.declared.functions.InstantFn.{InstantFn}
use Rattle.pf_model.specs.declared.functions.InstantFn.TheVariants.{LabelReplace, Timestamp}
use Rattle.pf_model.specs.Evaluation.{expansion_by}
use Rattle.pf_model.specs.InstantFunctions.{Beside, instant_function}
use Rattle.pf_model.specs.Lists.{at}
use Rattle.pf_model.specs.Micros.{one}
use Rattle.pf_model.specs.Outcomes.{Outcome, of_elements, scalars_of, texts_of}
use Rattle.pf_columns.specs.Columns.{cell_at, value_in}
use Rattle.pf_columns.specs.Steps.{bad_in}
use Rattle.pf_math.specs.declared.values.Change.{Change}
use Rattle.pf_math.specs.declared.values.Change.TheVariants.{Remove}
use Rattle.pf_eval.specs.declared.arguments.Arguments.{Arguments}
use Rattle.pf_eval.specs.declared.instant.Changes.{Changes}
use Rattle.pf_eval.specs.declared.instant.Changes.TheVariants.{Same, Steps}
use Rattle.pf_eval.specs.Arguments.{outcome_unless}

-- what a call has beside its vector; the pattern of `label_replace` is its fourth text
abbrev pub beside_at : Pairs → ℤ → List Outcome → Beside
beside_at absent t os = record {
  time = t;
  scalars = scalars_of os;
  texts = texts_of os;
  expand = expansion_by (at (texts_of os) 3);
  absent = absent;
}

-- the pattern of `label_replace`, its fourth text, is among those that are built
abbrev pub has_its_pattern : InstantFn → List (List ℕ) → List (List ℕ) → Bool
has_its_pattern LabelReplace (a ∷ b ∷ c ∷ d ∷ rest) ps = list_any (λ p. bytes_eq p d) ps
has_its_pattern f texts ps = true

-- the scalars of a step
abbrev pub scalars_at : List (Vec (Option ℤ) Global) → ℕ → List (Option ℤ)
scalars_at scalars k = map (λ vs. value_in vs.items k) scalars

-- what a call has beside its vector at a step, from what is read of its arguments
abbrev pub beside_read : Pairs → ℤ → Arguments → ℕ → Beside
beside_read absent t a k = record {
  time = t;
  scalars = scalars_at a.scalars.items k;
  texts = a.texts.items;
  expand = expansion_by (at a.texts.items 3);
  absent = absent;
}

-- what a function gives at a step
abbrev pub given : InstantFn → Pairs → ℤ → Arguments → ℕ → Outcome
given f absent t a k =
    outcome_unless (bad_in a.bads.items k) (of_elements f (instant_function f (beside_read absent t a k) (cell_at a.columns.items k)))

-- it gives another value at another time
abbrev pub reads_time : InstantFn → Bool
reads_time Timestamp = true
reads_time f = false

-- the change of a step; a step behind the last one has no value
abbrev pub change_at : Changes → ℕ → Change
change_at (Same change) k = change
change_at (Steps changes) k = slice_index_or changes.items k Remove

-- the value of `absent`, where there is no element
abbrev pub absent_value : List Element → Option ℤ
absent_value [] = Some one
absent_value (e ∷ es) = None

-- the value of the only element, where one is found already, or none is
abbrev pub only_after : Option ℤ → List Element → Option ℤ
only_after (Some v) [] = Some v
only_after (Some v) (e ∷ es) = None
only_after None [] = None
only_after None (e ∷ es) = only_after (Some e.value) es
