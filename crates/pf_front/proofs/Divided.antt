-- What is found of a query whose steps are divided among cached cells and runs.
use Rattle.std.proofs.Common.{◌≡◌, ◌∙◌, ℕ, zero, suc, ◌+◌, ◌*◌, ◌<◌, ◌≤◌, pos, Option, Some, List, [], ◌∷◌, ◌++◌, length, sym, ap, subst, arith}
use Rattle.std.specs.Prelude.{slice_index_or}
use Rattle.std.proofs.Math.Nat.{suc-mul}
use Rattle.pf_base.proofs.GridTimes.{length-times_from}
use Rattle.pf_base.specs.GridLists.{GridData, IsGrid, times_from}
use Rattle.pf_base.specs.Grids.{points}
use Rattle.pf_base.specs.declared.plain.Limits.{Limits}
use Rattle.pf_base.specs.declared.plain.Row.{Row}
use Rattle.pf_columns.specs.Columns.{timed}
use Rattle.pf_columns.specs.Runs.{points_over}
use Rattle.std.specs.Arc.{arc_value}
use Rattle.pf_core.specs.Calls.{AreCellsOf}
use Rattle.pf_core.specs.Cores.{CoreData}
use Rattle.pf_core.specs.Jobs.{AreParts, IsValueAt, pieces_in}
use Rattle.pf_extent.specs.Done.{AreWhole}
use Rattle.pf_extent.specs.declared.done.DoneCells.{DoneCells}
use Rattle.pf_front.proofs.Failures.{answer_failed, fails, pieces_fail}
use Rattle.pf_front.proofs.Spans.{each_append, each_behind, each_front, pieces_woven, span_points, no_points}
use Rattle.pf_front.proofs.LegParts.{parts_open}
use Rattle.pf_front.proofs.Progress.{some_is}
use Rattle.pf_front.specs.Settling.{AreCellsOver, AreLegValues, AreNoted, HasParts, whole_runs}
use Rattle.pf_front.specs.Spans.{AllCells, AreAllTrue, AreCellsAt, AreNotedOf, ArePieceCells, IsRunIn, all_of, piece_runs, runs_in, whole_spans}
use Rattle.pf_journal.specs.Machine.{Open, answer_of}
use Rattle.pf_model.specs.Direct.{Failure, failed}
use Rattle.pf_model.specs.Evaluation.{eval}
use Rattle.pf_model.specs.Legs.{LegsData}
use Rattle.pf_model.specs.Lists.{Each}
use Rattle.pf_model.specs.Log.{rules_of, store_of}
use Rattle.pf_model.specs.Trees.{Tree}
use Rattle.pf_model.specs.declared.cell.StepCell.TheVariants.{Good}
use Rattle.pf_query.specs.declared.gathered.Gathered.{Gathered}
use Rattle.pf_results.specs.Serving.{steps_of}
use Rattle.pf_results.specs.Woven.{AreWoven, IsWoven, Span, done, done_in, rest_of, wanted}
use Rattle.pf_shard.specs.Lawful.{ResolvedLegs}
use Rattle.pf_shard.specs.declared.parts.Part.{Part}
use Rattle.pf_split.specs.Pieces.{pieces_of, steps_of as steps_by_piece}
use Rattle.pf_split.specs.declared.splitting.Piece.{Piece}

-- ---- the steps of pieces are the grid's

line_points : (g : GridData) (ps : List Piece) → IsWoven g (whole_spans ps) → steps_by_piece ps ≡ points g
line_points g [] w = sym (no_points g w)
line_points g (p ∷ ps) w = ap (λ ts. points p.run ++ ts) (line_points (rest_of g p.run.len) ps w.1) ∙ sym (span_points g (wanted p.run) w.0)

pub all_points : (interval : ℕ) (grid : GridData) → IsGrid grid → steps_by_piece (pieces_of interval grid.step (points grid)) ≡ points grid
all_points interval grid g = line_points grid (pieces_of interval grid.step (points grid)) (pieces_woven interval grid g)

-- ---- cached cells

spans_whole : (run : GridData) (ss : List Span) → IsWoven run ss → AreWhole (done_in ss)
spans_whole run [] w = tt
spans_whole run (done d ∷ ss) w = (w.0.whole, spans_whole (rest_of run d.run.len) ss w.1)
spans_whole run (wanted r ∷ ss) w = spans_whole (rest_of run r.len) ss w.1

pub woven_whole : (ps : List Piece) (ds : List DoneCells) (rs : List GridData) → AreWoven ps ds rs → AreWhole ds
woven_whole [] ds rs w = subst AreWhole (sym w.0) tt
woven_whole (p ∷ ps) ds rs w =
    subst AreWhole (sym w.4) (each_append (λ d. length d.cells ≡ d.run.len) (done_in w.0) w.1 (spans_whole p.run w.0 w.3) (woven_whole ps w.1 w.2 w.6))

module _ (l : Limits) (o : Open) where
  abbrev samples : List Row
  samples = (store_of (rules_of l) o.log).samples

  abbrev query : Tree
  query = o.asked.query.tree

  true_cells : (ts : List ℕ) (cells : AllCells) → length cells ≡ length ts → Each (IsValueAt l o) (timed ts cells) → AreCellsAt samples query ts cells
  true_cells [] [] e h = tt
  true_cells [] (c ∷ cells) e h = absurd (omega (arith, e))
  true_cells (t ∷ ts) [] e h = absurd (omega (arith, e))
  true_cells (t ∷ ts) (c ∷ cells) e h = (h.0, true_cells ts cells (omega (arith, e)) h.1)

  pub true_cached : (ds : List DoneCells) → AreWhole ds → Each (IsValueAt l o) (steps_of ds) → AreAllTrue samples query ds
  true_cached [] w h = tt
  true_cached (d ∷ ds) w h =
      let many : length d.cells ≡ length (points d.run) = w.0 ∙ sym (length-times_from d.run.start d.run.step d.run.len) in (
        true_cells (points d.run) d.cells many (each_front (IsValueAt l o) (timed (points d.run) d.cells) (steps_of ds) h),
        true_cached ds w.1 (each_behind (IsValueAt l o) (timed (points d.run) d.cells) (steps_of ds) h),
      )

  -- ---- cells that may be kept

  cell_is : (t step n k : ℕ) (cells : AllCells) → AreCellsAt samples query (times_from t step n) cells → k < n
      → eval samples query (pos (t + k * step)) ≡ Good (slice_index_or cells k [])
  cell_is t step zero k cells a h = absurd (omega (arith, h))
  cell_is t step (suc n) k [] a h = absurd a
  cell_is t step (suc n) zero (c ∷ cells) a h = let e : t + 0 * step ≡ t = omega arith in ap (λ u. eval samples query (pos u)) e ∙ a.0
  cell_is t step (suc n) (suc k) (c ∷ cells) a h =
      let e : t + suc k * step ≡ t + step + k * step = let m = suc-mul k step in omega (arith, m) in
      ap (λ u. eval samples query (pos u)) e ∙ cell_is (t + step) step n k cells a.1 (omega (arith, h))

  each_noted : (ds : List DoneCells) → Each (λ d. IsRunIn l.interval o.asked.query.grid d.run) ds → AreWhole ds → AreAllTrue samples query ds → Each (AreCellsOf l o) ds
  each_noted [] r w a = tt
  each_noted (d ∷ ds) r w a = (
    record {
      run_is = r.0.run_is;
      whole = w.0;
      place = r.0.place;
      values = λ k h. cell_is d.run.start d.run.step d.run.len k d.cells a.0 h;
    },
    each_noted ds r.1 w.1 a.1,
  )

  -- ---- what is found

  module _ (legs : ResolvedLegs) (cached : List DoneCells) (runs : List GridData) (parts : List Part) (p : AreParts l o legs cached runs parts) where
    same_query : legs.resolved.query ≡ query
    same_query = ap (λ (d : LegsData). d.query) p.legs_are

    cached_true : AreAllTrue samples query cached
    cached_true = true_cached cached (woven_whole (pieces_in l o) cached runs p.divided.woven) p.divided.values

    pub found_cells : (interval : ℕ) (grid : GridData) (es : List DoneCells) (cells : List AllCells) (noted : List DoneCells) → interval ≡ l.interval
        → grid ≡ o.asked.query.grid → IsGrid grid → runs_in es ≡ runs
        → ((samples : List Row) → AreLegValues samples legs runs parts → AreAllTrue samples legs.resolved.query es) → ArePieceCells interval grid cached es cells noted
        → AreCellsOver l o (all_of cells) × AreNoted l o runs noted
    found_cells interval grid es cells noted i g lawful rs values pieces =
        let is : ArePieceCells l.interval o.asked.query.grid cached es cells noted =
        subst (λ (x : GridData). ArePieceCells l.interval x cached es cells noted) g (subst (λ n. ArePieceCells n grid cached es cells noted) i pieces) in
        let evaluated : AreAllTrue samples query es = subst (λ (q : Tree). AreAllTrue samples q es) same_query (values samples p.values) in
        let all = is.values samples query cached_true evaluated in (
          all.0,
          record {
            pieces = subst (λ xs. AreNotedOf (pieces_in l o) xs noted) rs is.noted_are;
            few =
                let few = is.few in
                let most : o.asked.query.grid.len ≤ 11001 = let m = lawful.most in let e = ap (λ (x : GridData). x.len) g in omega (arith, m, e) in
                omega (arith, few, most);
            each = each_noted noted is.each is.whole all.1;
          },
        )

    pub found_whole : (interval : ℕ) (grid : GridData) (es : List DoneCells) (cells : List AllCells) (noted : List DoneCells) → interval ≡ l.interval
        → grid ≡ o.asked.query.grid → ArePieceCells interval grid cached es cells noted → cached ≡ [] → runs_in noted ≡ whole_runs l o
    found_whole interval grid es cells noted i g pieces e = pieces.all e ∙ (λ j. piece_runs (pieces_of (i j) (g j).step (points (g j))))

    pub found_failed : (grid : GridData) (f : Failure) → grid ≡ o.asked.query.grid → IsGrid grid
        → ((samples : List Row) → AreLegValues samples legs runs parts → fails samples legs.resolved.query (points_over runs) ≡ Some f)
        → answer_of l o ≡ failed f.time f.kind
    found_failed grid f g lawful values =
        answer_failed samples query (points o.asked.query.grid) f
        (ap (fails samples query) (sym (all_points l.interval o.asked.query.grid (subst IsGrid g lawful)))
        ∙ pieces_fail samples query (pieces_in l o) cached runs p.divided.woven cached_true
        ∙ subst (λ (q : Tree). fails samples q (points_over runs) ≡ Some f) same_query (values samples p.values))

-- ---- of an open query

pub parts_at : (c : CoreData) (found : Option Open) (g : Gathered) (o : Open) → HasParts c found g → found ≡ Some o
    → AreParts c.limits o (arc_value g.legs) g.cached.items g.runs.items g.parts.items
parts_at c found g o has there =
    let p = parts_open c found g has in
    let is : p.0 ≡ o = some_is p.0 o (sym p.1.0 ∙ there) in
    subst (λ (x : Open). AreParts c.limits x (arc_value g.legs) g.cached.items g.runs.items g.parts.items) is p.1.1

-- what is so by parts is so of equal legs and runs
pub by_same : (legs legs' : ResolvedLegs) (runs runs' : List GridData) (parts : List Part) (P : Tree → List GridData → List Row → Type 0) → legs' ≡ legs → runs' ≡ runs
    → ((samples : List Row) → AreLegValues samples legs' runs' parts → P legs'.resolved.query runs' samples)
    → (samples : List Row) → AreLegValues samples legs runs parts → P legs.resolved.query runs samples
by_same legs legs' runs runs' parts P l r h =
    subst (λ (rs : List GridData). (samples : List Row) → AreLegValues samples legs rs parts → P legs.resolved.query rs samples) r
    (subst (λ (x : ResolvedLegs). (samples : List Row) → AreLegValues samples x runs' parts → P x.resolved.query runs' samples) l h)

-- the pieces of equal cells
pub same_pieces : (interval : ℕ) (grid : GridData) (ds ds' es es' : List DoneCells) (cells : List AllCells) (noted : List DoneCells) → ds ≡ ds' → es ≡ es'
    → ArePieceCells interval grid ds es cells noted → ArePieceCells interval grid ds' es' cells noted
same_pieces interval grid ds ds' es es' cells noted d e h =
    subst (λ xs. ArePieceCells interval grid xs es' cells noted) d (subst (λ xs. ArePieceCells interval grid ds xs cells noted) e h)
