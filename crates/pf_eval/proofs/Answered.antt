-- The answer of a query from its steps.
use Rattle.std.proofs.Common.{◌≡◌, ◌<◌, ◌*◌, ℕ, zero, suc, ◌+◌, pos, Option, Some, None, List, [], ◌∷◌, length, get_or, refl, sym, ap, ◌∙◌, subst, arith}
use Rattle.std.proofs.Math.Nat.{suc-mul}
use Rattle.std.specs.List.{slice_get}
use Rattle.std.proofs.lemmas.Option.{get_or_from_slice_get}
use Rattle.pf_base.specs.declared.plain.Row.{Row}
use Rattle.pf_base.specs.GridLists.{GridData, times_from}
use Rattle.pf_base.specs.Grids.{points}
use Rattle.pf_base.proofs.GridTimes.{length-times_from}
use Rattle.pf_model.specs.declared.cell.ErrorKind.{ErrorKind}
use Rattle.pf_model.specs.declared.cell.StepCell.{StepCell}
use Rattle.pf_model.specs.declared.cell.StepCell.TheVariants.{Good, Bad}
use Rattle.pf_model.specs.Direct.{Answer, Failure, answer_unless, answered, elements_of, evaluated, failed, failure_at, first_failure, gather, gathered, steps_of}
use Rattle.pf_model.specs.Evaluation.{eval}
use Rattle.pf_model.specs.Trees.{Tree}
use Rattle.pf_columns.specs.Columns.{cell_at, cells_from, timed}
use Rattle.pf_columns.specs.Steps.{IsFirstBad, NoneBad, StepsData, bad_in, step_at, unless_bad}
use Rattle.pf_columns.specs.declared.steps.BadStep.{BadStep}
use Rattle.pf_eval.specs.declared.bound.EvalError.{EvalError}
use Rattle.pf_eval.specs.declared.bound.EvalError.TheVariants as error

module _ (samples : List Row) (query : Tree) (s : StepsData) where
  abbrev value : ℕ → StepCell
  value t = eval samples query (pos t)

  abbrev pub AreSteps : List ℕ → ℕ → Type 0
  AreSteps [] k = Unit {0}
  AreSteps (t ∷ ts) k = (step_at s k ≡ value t) × AreSteps ts (k + 1)

  pub steps_by : (start step n k : ℕ) → ((i : ℕ) → i < n → step_at s (k + i) ≡ value (start + i * step)) → AreSteps (times_from start step n) k
  steps_by start step zero k h = tt
  steps_by start step (suc n) k h =
      let here : k ≡ k + 0 = omega arith in
      let now : start + 0 * step ≡ start = omega arith in (
        ap (step_at s) here ∙ h 0 (omega arith) ∙ ap value now,
        steps_by (start + step) step n (k + 1) (λ i l.
            let there : k + 1 + i ≡ k + suc i = omega arith in
            let then : start + suc i * step ≡ start + step + i * step = omega (arith, suc-mul i step) in
            ap (step_at s) there ∙ h (suc i) (omega (arith, l)) ∙ ap value then),
      )

  good_step : (t k : ℕ) → step_at s k ≡ value t → bad_in s.bads k ≡ None → value t ≡ Good (cell_at s.columns k)
  good_step t k a b = sym a ∙ ap (λ o. unless_bad o (Good (cell_at s.columns k))) b

  bad_step : (t k : ℕ) (kind : ErrorKind) → step_at s k ≡ value t → bad_in s.bads k ≡ Some kind → value t ≡ Bad kind
  bad_step t k kind a b = sym a ∙ ap (λ o. unless_bad o (Good (cell_at s.columns k))) b

  tail_none : (k n : ℕ) → ((i : ℕ) → i < suc n → bad_in s.bads (k + i) ≡ None) → (i : ℕ) → i < n → bad_in s.bads (k + 1 + i) ≡ None
  tail_none k n h i l = let there : k + 1 + i ≡ k + suc i = omega arith in ap (bad_in s.bads) there ∙ h (suc i) (omega (arith, l))

  head_none : (k n : ℕ) → ((i : ℕ) → i < suc n → bad_in s.bads (k + i) ≡ None) → bad_in s.bads k ≡ None
  head_none k n h = let here : k ≡ k + 0 = omega arith in ap (bad_in s.bads) here ∙ h 0 (omega arith)

  pub no_failure : (ts : List ℕ) (k : ℕ) → AreSteps ts k → ((i : ℕ) → i < length ts → bad_in s.bads (k + i) ≡ None) → first_failure (evaluated samples query ts) ≡ None
  no_failure [] k a b = refl
  no_failure (t ∷ ts) k a b =
      ap (λ c. failure_at t c (first_failure (evaluated samples query ts))) (good_step t k a.0 (head_none k (length ts) b))
      ∙ no_failure ts (k + 1) a.1 (tail_none k (length ts) b)

  steps_are : (ts : List ℕ) (k : ℕ) → AreSteps ts k → ((i : ℕ) → i < length ts → bad_in s.bads (k + i) ≡ None) → steps_of (evaluated samples query ts) ≡ timed ts (cells_from s.columns k (length ts))
  steps_are [] k a b = refl
  steps_are (t ∷ ts) k a b = λ i.
      record { time = t; elements = elements_of (good_step t k a.0 (head_none k (length ts) b) i) } ∷ steps_are ts (k + 1) a.1 (tail_none k (length ts) b) i

  -- where no step has failed, each is what the columns are
  pub good_steps : (ts : List ℕ) (k : ℕ) → AreSteps ts k → first_failure (evaluated samples query ts) ≡ None → steps_of (evaluated samples query ts) ≡ timed ts (cells_from s.columns k (length ts))
  good_steps [] k a h = refl
  good_steps (t ∷ ts) k a h = by (bad_in s.bads k) refl (good_steps ts (k + 1) a.1) where
    by : (o : Option ErrorKind) → bad_in s.bads k ≡ o → (first_failure (evaluated samples query ts) ≡ None → steps_of (evaluated samples query ts) ≡ timed ts (cells_from s.columns (k + 1) (length ts))) → steps_of (evaluated samples query (t ∷ ts)) ≡ timed (t ∷ ts) (cells_from s.columns k (length (t ∷ ts)))
    by None e behind =
        let good = good_step t k a.0 e in
        let later = ap (λ c. failure_at t c (first_failure (evaluated samples query ts))) (sym good) ∙ h in
        λ i. record { time = t; elements = elements_of (good i) } ∷ behind later i
    by (Some kind) e behind =
        let failure : Failure = record { time = t; kind = kind } in
        let failed_now : Some failure ≡ None = ap (λ c. failure_at t c (first_failure (evaluated samples query ts))) (sym (bad_step t k kind a.0 e)) ∙ h in
        cc

  pub failure_is : (ts : List ℕ) (k j : ℕ) (kind : ErrorKind) → j < length ts → AreSteps ts k → ((i : ℕ) → i < j → bad_in s.bads (k + i) ≡ None) → bad_in s.bads (k + j) ≡ Some kind
      → first_failure (evaluated samples query ts) ≡ Some (record { time = get_or ts j 0; kind = kind })
  failure_is [] k j kind l a b e = absurd (omega (arith, l))
  failure_is (t ∷ ts) k zero kind l a b e =
      let here : k ≡ k + 0 = omega arith in
      ap (λ c. failure_at t c (first_failure (evaluated samples query ts))) (bad_step t k kind a.0 (ap (bad_in s.bads) here ∙ e))
  failure_is (t ∷ ts) k (suc j) kind l a b e =
      let there : k + 1 + j ≡ k + suc j = omega arith in
      ap (λ c. failure_at t c (first_failure (evaluated samples query ts))) (good_step t k a.0 (head_none k j b))
      ∙ failure_is ts (k + 1) j kind (omega (arith, l)) a.1 (tail_none k j b) (ap (bad_in s.bads) there ∙ e)

  pub gathered_is : (ts : List ℕ) → AreSteps ts 0 → NoneBad s.bads (length ts) → answered (evaluated samples query ts) ≡ gathered (gather (timed ts (cells_from s.columns 0 (length ts))))
  gathered_is ts a b =
      let none : (i : ℕ) → i < length ts → bad_in s.bads (0 + i) ≡ None = λ i l. let same : 0 + i ≡ i = omega arith in ap (bad_in s.bads) same ∙ b i l in
      (λ i. answer_unless (no_failure ts 0 a none i) (steps_are ts 0 a none i))

  pub failed_is : (ts : List ℕ) (j : ℕ) (kind : ErrorKind) → AreSteps ts 0 → j < length ts → bad_in s.bads j ≡ Some kind → NoneBad s.bads j → answered (evaluated samples query ts) ≡ failed (get_or ts j 0) kind
  failed_is ts j kind a l e b =
      let none : (i : ℕ) → i < j → bad_in s.bads (0 + i) ≡ None = λ i h. let same : 0 + i ≡ i = omega arith in ap (bad_in s.bads) same ∙ b i h in
      let here : 0 + j ≡ j = omega arith in
      ap (λ o. answer_unless o (steps_of (evaluated samples query ts))) (failure_is ts 0 j kind l a none (ap (bad_in s.bads) here ∙ e))

  -- ---- over a grid

  abbrev AreGridSteps : GridData → Type 0
  AreGridSteps g = (k : ℕ) → k < g.len → step_at s k ≡ value (g.start + k * g.step)

  pub grid_steps : (g : GridData) → AreGridSteps g → AreSteps (points g) 0
  grid_steps g h = steps_by g.start g.step g.len 0 (λ i l. let same : 0 + i ≡ i = omega arith in ap (step_at s) same ∙ h i l)

  pub grid_gathered : (g : GridData) → AreGridSteps g → NoneBad s.bads g.len
      → answered (evaluated samples query (points g)) ≡ gathered (gather (timed (points g) (cells_from s.columns 0 g.len)))
  grid_gathered g h b =
      let n : length (points g) ≡ g.len = length-times_from g.start g.step g.len in
      gathered_is (points g) (grid_steps g h) (subst (NoneBad s.bads) (sym n) b)
      ∙ ap (λ m. gathered (gather (timed (points g) (cells_from s.columns 0 m)))) n

  pub grid_failed : (g : GridData) → AreGridSteps g → (bad : BadStep) (at : ℕ) → IsFirstBad s.bads g.len bad → slice_get (points g) bad.step ≡ Some at
      → answered (evaluated samples query (points g)) ≡ failed at bad.kind
  grid_failed g h bad at b e =
      let n : length (points g) ≡ g.len = length-times_from g.start g.step g.len in
      failed_is (points g) bad.step bad.kind (grid_steps g h) (subst (λ m. bad.step < m) (sym n) b.0) b.1 b.2
      ∙ ap (λ t. failed t bad.kind) (get_or_from_slice_get (points g) bad.step at 0 e)

-- the answer of an error
abbrev answer_of : EvalError → Answer
answer_of (error.Execution step kind) = failed step kind
answer_of error.OutOfMemory = gathered []

pub same_failure : (a : Answer) (t step : ℕ) (kind k : ErrorKind) → a ≡ failed t kind → error.Execution t kind ≡ error.Execution step k → a ≡ failed step k
same_failure a t step kind k h e = h ∙ ap answer_of e
