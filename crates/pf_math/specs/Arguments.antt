-- What a call has beside its vector, as the definitions read it.
use Rattle.std.specs.Prelude.{ℕ, ℤ, Option, List}
use Rattle.pf_base.specs.LabelSets.{Pairs}
use Rattle.pf_model.specs.Evaluation.{expansion_by}
use Rattle.pf_model.specs.InstantFunctions.{Beside}

-- the evaluation's time, the scalars and the texts in order, the text of the pattern, and the labels of `absent`
pub record ArgsData : Type 0 where
  pub time : ℤ
  pub scalars : List (Option ℤ)
  pub texts : List (List ℕ)
  pub pattern : Option (List ℕ)
  pub absent : Pairs

-- what a pattern makes of a value and a replacement; no pattern matches nothing
abbrev pub expansion : Option (List ℕ) → List ℕ → List ℕ → Option (List ℕ)
expansion pattern = expansion_by pattern

abbrev pub beside : ArgsData → Beside
beside a = record {
  time = a.time;
  scalars = a.scalars;
  texts = a.texts;
  expand = expansion a.pattern;
  absent = a.absent;
}
