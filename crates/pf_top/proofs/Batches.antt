-- The samples of a batch are those of a log with this batch alone.
use Rattle.std.proofs.Common.{◌≡◌, Bool, true, false, ◌||◌, cond, None, List, [], ◌∷◌, refl, sym, subst, true≢false}
use Rattle.pf_base.specs.declared.plain.Row.{Row}
use Rattle.pf_model.specs.Log.{AreApart, Change, Rules, Verdict, any_taken, append, batch_samples, is_taken, log_with, store_of, taken_rows, verdicts_of, verdicts_on}
use Rattle.pf_store.specs.Standing.{IsLog, IsPin, LogData, PinData, StandsFor}

none_taken : (rows : List Row) (vs : List Verdict) → any_taken vs ≡ false → taken_rows rows vs ≡ []
none_taken [] vs h = refl
none_taken (r ∷ rs) [] h = refl
none_taken (r ∷ rs) (v ∷ vs) h = by (is_taken v) h (none_taken rs vs) where
  by : (b : Bool) → (b || any_taken vs) ≡ false → (any_taken vs ≡ false → taken_rows rs vs ≡ []) → cond b (r ∷ taken_rows rs vs) (taken_rows rs vs) ≡ []
  by true g others = absurd (true≢false g)
  by false g others = others g

one_batch : (rules : Rules) (rows : List Row) → (store_of rules (log_with [] rows (verdicts_of rules [] rows))).samples ≡ batch_samples rows
one_batch rules rows = by (any_taken (verdicts_on None [] rows)) refl where
  by : (b : Bool) → any_taken (verdicts_on None [] rows) ≡ b → (store_of rules (cond b (append rows ∷ []) [])).samples ≡ batch_samples rows
  by true e = refl
  by false e = sym (none_taken rows (verdicts_on None [] rows) e)

pub batch_stands : (rules : Rules) (rows : List Row) (p : PinData) (opened after : LogData) → IsLog rules opened []
    → ((rules : Rules) (log : List Change) → IsLog rules opened log → IsLog rules after (log_with log rows (verdicts_of rules log rows)))
    → ((rules : Rules) (log : List Change) → IsLog rules after log → IsPin p rules log)
    → StandsFor p.snap (batch_samples rows) × AreApart (batch_samples rows)
batch_stands rules rows p opened after empty taken pinned =
    let pin = pinned rules (log_with [] rows (verdicts_of rules [] rows)) (taken rules [] empty) in (
      subst (StandsFor p.snap) (one_batch rules rows) pin.samples,
      subst AreApart (one_batch rules rows) pin.apart,
    )
