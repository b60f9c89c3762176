-- The cells of steps without an error, and the first step that has one.
use Rattle.std.proofs.Common.{◌≡◌, ◌∙◌, ℕ, zero, suc, ◌+◌, ◌*◌, ◌<◌, pos, Option, Some, None, List, [], ◌∷◌, ◌++◌, append_assoc, drop, length, get_or, refl, sym, ap, subst, arith}
use Rattle.std.proofs.Math.Nat.{suc-mul}
use Rattle.pf_base.specs.GridLists.{GridData, times_from}
use Rattle.pf_base.specs.Grids.{points}
use Rattle.pf_base.specs.declared.plain.Row.{Row}
use Rattle.pf_columns.specs.Columns.{ColumnData, cell_at, cells_from, timed}
use Rattle.pf_columns.specs.Runs.{points_over}
use Rattle.pf_columns.specs.Steps.{IsFirstBad, NoneBad, StepsData, bad_in, step_at, unless_bad}
use Rattle.pf_columns.specs.declared.steps.BadStep.{BadStep}
use Rattle.pf_extent.specs.declared.done.DoneCells.{DoneCells}
use Rattle.pf_front.proofs.Spans.{each_behind, each_front, no_points, span_points}
use Rattle.pf_front.specs.Spans.{AllCells, AreAllTrue, AreCellsAt, AreTrueCells}
use Rattle.pf_model.specs.Direct.{Failure, answer_unless, answered, elements_of, evaluated, failed, failure_at, first_failure, gather, gathered, steps_of}
use Rattle.pf_model.specs.Evaluation.{eval}
use Rattle.pf_model.specs.Trees.{Tree}
use Rattle.pf_model.specs.declared.cell.ErrorKind.{ErrorKind}
use Rattle.pf_model.specs.declared.cell.StepCell.{StepCell}
use Rattle.pf_model.specs.declared.cell.StepCell.TheVariants.{Good, Bad}
use Rattle.pf_results.specs.Woven.{AreWoven, IsWoven, Span, done, done_in, rest_of, wanted, wanted_in}
use Rattle.pf_split.specs.Pieces.{points_of, steps_of as steps_by_piece}
use Rattle.pf_split.specs.declared.splitting.Piece.{Piece}
pub use Rattle.pf_columns.proofs.Parts.{length_cells as cells_many}

pub points_append : (rs ss : List GridData) → points_over (rs ++ ss) ≡ points_over rs ++ points_over ss
points_append [] ss = refl
points_append (r ∷ rs) ss = ap (λ ts. points r ++ ts) (points_append rs ss) ∙ sym (append_assoc (points r) (points_over rs) (points_over ss))

pub drop_next : {X : Type 0} (xs : List X) (n : ℕ) (x : X) → n < length xs → x ≡ get_or xs n x → drop n xs ≡ x ∷ drop (n + 1) xs
drop_next [] n x h e = absurd (omega (arith, h))
drop_next (y ∷ ys) zero x h e = ap (λ z. z ∷ ys) (sym e)
drop_next (y ∷ ys) (suc n) x h e = let same : suc (n + 1) ≡ suc n + 1 = omega arith in drop_next ys n x (omega (arith, h)) e ∙ ap (λ m. x ∷ drop m (y ∷ ys)) same

module _ (samples : List Row) (query : Tree) where
  abbrev value : ℕ → StepCell
  value t = eval samples query (pos t)

  abbrev pub fails : List ℕ → Option Failure
  fails ts = first_failure (evaluated samples query ts)

  abbrev pub first_of : Option Failure → Option Failure → Option Failure
  first_of None later = later
  first_of (Some f) later = Some f

  -- ---- one part after another

  fails_by : (t : ℕ) (ts us : List ℕ) (cell : StepCell) → fails (ts ++ us) ≡ first_of (fails ts) (fails us)
      → failure_at t cell (fails (ts ++ us)) ≡ first_of (failure_at t cell (fails ts)) (fails us)
  fails_by t ts us (Good cell) e = e
  fails_by t ts us (Bad kind) e = refl

  pub fails_append : (ts us : List ℕ) → fails (ts ++ us) ≡ first_of (fails ts) (fails us)
  fails_append [] us = refl
  fails_append (t ∷ ts) us = fails_by t ts us (value t) (fails_append ts us)

  pub none_fails : (ts : List ℕ) (cells : AllCells) → AreCellsAt samples query ts cells → fails ts ≡ None
  none_fails [] [] a = refl
  none_fails [] (c ∷ cells) a = absurd a
  none_fails (t ∷ ts) [] a = absurd a
  none_fails (t ∷ ts) (c ∷ cells) a = ap (λ x. failure_at t x (fails ts)) a.0 ∙ none_fails ts cells a.1

  pub behind_none : (ts us : List ℕ) → fails ts ≡ None → fails (ts ++ us) ≡ fails us
  behind_none ts us e = fails_append ts us ∙ ap (λ o. first_of o (fails us)) e

  pub front_some : (ts us : List ℕ) (f : Failure) → fails ts ≡ Some f → fails (ts ++ us) ≡ Some f
  front_some ts us f e = fails_append ts us ∙ ap (λ o. first_of o (fails us)) e

  -- ---- one run

  module _ (s : StepsData) where
    good_cell : (t k : ℕ) → step_at s k ≡ value t → bad_in s.bads k ≡ None → value t ≡ Good (cell_at s.columns k)
    good_cell t k a b = sym a ∙ ap (λ o. unless_bad o (Good (cell_at s.columns k))) b

    good_from : (start step n k : ℕ) → ((i : ℕ) → i < n → step_at s (k + i) ≡ value (start + i * step)) → ((i : ℕ) → i < n → bad_in s.bads (k + i) ≡ None)
        → AreCellsAt samples query (times_from start step n) (cells_from s.columns k n)
    good_from start step zero k h b = tt
    good_from start step (suc n) k h b =
        let here : k ≡ k + 0 = omega arith in
        let now : start + 0 * step ≡ start = omega arith in (
          good_cell start k (ap (step_at s) here ∙ h 0 (omega arith) ∙ ap value now) (ap (bad_in s.bads) here ∙ b 0 (omega arith)),
          good_from (start + step) step n (k + 1)
              (λ i l.
              let there : k + 1 + i ≡ k + suc i = omega arith in
              let then : start + suc i * step ≡ start + step + i * step = omega (arith, suc-mul i step) in
              ap (step_at s) there ∙ h (suc i) (omega (arith, l)) ∙ ap value then)
              (λ i l. let there : k + 1 + i ≡ k + suc i = omega arith in ap (bad_in s.bads) there ∙ b (suc i) (omega (arith, l))),
        )

    bad_from : (start step n k j : ℕ) (kind : ErrorKind) → j < n → ((i : ℕ) → i < n → step_at s (k + i) ≡ value (start + i * step))
        → ((i : ℕ) → i < j → bad_in s.bads (k + i) ≡ None) → bad_in s.bads (k + j) ≡ Some kind
        → fails (times_from start step n) ≡ Some (record { time = start + j * step; kind = kind })
    bad_from start step zero k j kind l h b e = absurd (omega (arith, l))
    bad_from start step (suc n) k zero kind l h b e =
        let now : start + 0 * step ≡ start = omega arith in
        let bad : value start ≡ Bad kind = ap value (sym now) ∙ sym (h 0 (omega arith)) ∙ ap (λ o. unless_bad o (Good (cell_at s.columns (k + 0)))) e in
        ap (λ x. failure_at start x (fails (times_from (start + step) step n))) bad
        ∙ ap (λ t. Some (record { time = t; kind = kind })) (sym now)
    bad_from start step (suc n) k (suc j) kind l h b e =
        let here : k ≡ k + 0 = omega arith in
        let now : start + 0 * step ≡ start = omega arith in
        let good = good_cell start k (ap (step_at s) here ∙ h 0 (omega arith) ∙ ap value now) (ap (bad_in s.bads) here ∙ b 0 (omega arith)) in
        let there : k + 1 + j ≡ k + suc j = omega arith in
        let last : start + step + j * step ≡ start + suc j * step = omega (arith, suc-mul j step) in
        ap (λ x. failure_at start x (fails (times_from (start + step) step n))) good
        ∙ bad_from (start + step) step n (k + 1) j kind (omega (arith, l))
        (λ i m.
        let next : k + 1 + i ≡ k + suc i = omega arith in
        let then : start + suc i * step ≡ start + step + i * step = omega (arith, suc-mul i step) in
        ap (step_at s) next ∙ h (suc i) (omega (arith, m)) ∙ ap value then)
        (λ i m. let next : k + 1 + i ≡ k + suc i = omega arith in ap (bad_in s.bads) next ∙ b (suc i) (omega (arith, m)))
        (ap (bad_in s.bads) there ∙ e)
        ∙ ap (λ t. Some (record { time = t; kind = kind })) last

    pub run_good : (run : GridData) → ((k : ℕ) → k < run.len → step_at s k ≡ value (run.start + k * run.step)) → NoneBad s.bads run.len
        → AreCellsAt samples query (points run) (cells_from s.columns 0 run.len)
    run_good run h b =
        good_from run.start run.step run.len 0 (λ i l. let same : 0 + i ≡ i = omega arith in ap (step_at s) same ∙ h i l)
        (λ i l. let same : 0 + i ≡ i = omega arith in ap (bad_in s.bads) same ∙ b i l)

    pub run_fails : (run : GridData) (bad : BadStep) → ((k : ℕ) → k < run.len → step_at s k ≡ value (run.start + k * run.step)) → IsFirstBad s.bads run.len bad
        → fails (points run) ≡ Some (record { time = run.start + bad.step * run.step; kind = bad.kind })
    run_fails run bad h b =
        let same : 0 + bad.step ≡ bad.step = omega arith in
        bad_from run.start run.step run.len 0 bad.step bad.kind b.0 (λ i l. let same : 0 + i ≡ i = omega arith in ap (step_at s) same ∙ h i l)
        (λ i l. let same : 0 + i ≡ i = omega arith in ap (bad_in s.bads) same ∙ b.2 i l) (ap (bad_in s.bads) same ∙ b.1)

  -- ---- spans and pieces

  pub spans_fail : (run : GridData) (ss : List Span) → IsWoven run ss → AreAllTrue samples query (done_in ss) → fails (points run) ≡ fails (points_over (wanted_in ss))
  spans_fail run [] w a = ap fails (no_points run w)
  spans_fail run (done d ∷ ss) w a =
      ap fails (span_points run (done d) w.0)
      ∙ behind_none (points d.run) (points (rest_of run d.run.len)) (none_fails (points d.run) d.cells a.0)
      ∙ spans_fail (rest_of run d.run.len) ss w.1 a.1
  spans_fail run (wanted r ∷ ss) w a =
      ap fails (span_points run (wanted r) w.0)
      ∙ fails_append (points r) (points (rest_of run r.len))
      ∙ ap (first_of (fails (points r))) (spans_fail (rest_of run r.len) ss w.1 a)
      ∙ sym (fails_append (points r) (points_over (wanted_in ss)))

  pub pieces_fail : (ps : List Piece) (ds : List DoneCells) (rs : List GridData) → AreWoven ps ds rs → AreAllTrue samples query ds
      → fails (steps_by_piece ps) ≡ fails (points_over rs)
  pieces_fail [] ds rs w a = ap (λ xs. fails (points_over xs)) (sym w.1)
  pieces_fail (p ∷ ps) ds rs w a =
      let all = subst (AreAllTrue samples query) w.4 a in
      fails_append (points_of p) (steps_by_piece ps)
      ∙ (λ i. first_of (spans_fail p.run w.0 w.3 (each_front (AreTrueCells samples query) (done_in w.0) w.1 all) i)
      (pieces_fail ps w.1 w.2 w.6 (each_behind (AreTrueCells samples query) (done_in w.0) w.1 all) i))
      ∙ sym (fails_append (points_over (wanted_in w.0)) (points_over w.2))
      ∙ ap fails (sym (points_append (wanted_in w.0) w.2))
      ∙ ap (λ xs. fails (points_over xs)) (sym w.5)

  -- ---- answers

  timed_cells : (ts : List ℕ) (cells : AllCells) → AreCellsAt samples query ts cells → steps_of (evaluated samples query ts) ≡ timed ts cells
  timed_cells [] [] a = refl
  timed_cells [] (c ∷ cells) a = absurd a
  timed_cells (t ∷ ts) [] a = absurd a
  timed_cells (t ∷ ts) (c ∷ cells) a = λ i. record { time = t; elements = elements_of (a.0 i) } ∷ timed_cells ts cells a.1 i

  pub answer_gathered : (ts : List ℕ) (cells : AllCells) → AreCellsAt samples query ts cells → answered (evaluated samples query ts) ≡ gathered (gather (timed ts cells))
  answer_gathered ts cells a = λ i. answer_unless (none_fails ts cells a i) (timed_cells ts cells a i)

  pub answer_failed : (ts : List ℕ) (f : Failure) → fails ts ≡ Some f → answered (evaluated samples query ts) ≡ failed f.time f.kind
  answer_failed ts f e = ap (λ o. answer_unless o (steps_of (evaluated samples query ts))) e

  -- ---- run by run

  pub next_fails : (runs : List GridData) (n : ℕ) (run : GridData) → n < length runs → run ≡ get_or runs n run
      → fails (points_over (drop n runs)) ≡ first_of (fails (points run)) (fails (points_over (drop (n + 1) runs)))
  next_fails runs n run h e = ap (λ rs. fails (points_over rs)) (drop_next runs n run h e) ∙ fails_append (points run) (points_over (drop (n + 1) runs))
