-- Runs woven of spans: cells that are done, and runs that are wanted. This project's own.
use Rattle.std.specs.Prelude.{◌≡◌, ◌≤◌, ℕ, ◌-◌, List, [], ◌∷◌, ◌++◌, length}
use Rattle.pf_base.specs.GridLists.{GridData, IsGrid}
use Rattle.pf_extent.specs.declared.done.DoneCells.{DoneCells}
use Rattle.pf_split.specs.declared.splitting.Piece.{Piece}
use Rattle.pf_results.specs.Runs.{part_of}

pub data Span : Type 0 where
  done : DoneCells → Span
  wanted : GridData → Span

abbrev pub run_in : Span → GridData
run_in (done d) = d.run
run_in (wanted r) = r

-- the cells of those that are done, and the runs of those that are wanted
abbrev pub done_in : List Span → List DoneCells
done_in [] = []
done_in (done d ∷ ss) = d ∷ done_in ss
done_in (wanted r ∷ ss) = done_in ss

abbrev pub wanted_in : List Span → List GridData
wanted_in [] = []
wanted_in (done d ∷ ss) = wanted_in ss
wanted_in (wanted r ∷ ss) = r ∷ wanted_in ss

-- a cell for each step
abbrev pub IsWholeSpan : Span → Type 0
IsWholeSpan (done d) = length d.cells ≡ d.run.len
IsWholeSpan (wanted r) = Unit {0}

-- a span of the first steps of a run, of one at least
pub record IsFirstSpan (run : GridData) (s : Span) : Type 0 where
  pub grid : IsGrid (run_in s)
  pub start : (run_in s).start ≡ run.start
  pub step : (run_in s).step ≡ run.step
  pub within : (run_in s).len ≤ run.len
  pub whole : IsWholeSpan s

-- the steps of a run but so many first ones
abbrev pub rest_of : GridData → ℕ → GridData
rest_of run n = part_of run n (run.len - n)

-- the steps of a run are those of spans, one after another
abbrev pub IsWoven : GridData → List Span → Type 0
IsWoven run [] = run.len ≡ 0
IsWoven run (s ∷ ss) = IsFirstSpan run s × IsWoven (rest_of run (run_in s).len) ss

-- the cells and the runs of a run's spans are added to others
pub record AreWovenIn (run : GridData) (ds : List DoneCells) (rs : List GridData) (more_ds : List DoneCells) (more_rs : List GridData) : Type 0 where
  pub spans : List Span
  pub woven : IsWoven run spans
  pub done_are : more_ds ≡ ds ++ done_in spans
  pub wanted_are : more_rs ≡ rs ++ wanted_in spans

-- cells and runs are those of the spans of pieces, one piece after another
abbrev pub AreWoven : List Piece → List DoneCells → List GridData → Type 0
AreWoven [] ds rs = (ds ≡ []) × (rs ≡ [])
AreWoven (p ∷ ps) ds rs =
    (spans : List Span) × (more_ds : List DoneCells) × (more_rs : List GridData) × IsWoven p.run spans × (ds ≡ done_in spans ++ more_ds)
    × (rs ≡ wanted_in spans ++ more_rs) × AreWoven ps more_ds more_rs
