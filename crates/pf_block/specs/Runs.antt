-- How a block keeps its samples: in runs, one for each series. A run is the id of the series and the place of its first
-- sample. This project's own.
use Rattle.std.specs.Prelude.{ℕ, zero, suc, ◌-◌, Bool, true, false, ◌&&◌, cond, List, [], ◌∷◌, ◌++◌, length, nat_eq, nat_lt}
use Rattle.pf_base.specs.declared.plain.Sample.{Sample}
use Rattle.pf_block.specs.Blocks.{Entries}

-- ids and samples side by side
abbrev pub paired : List ℕ → List Sample → Entries
paired [] samples = []
paired (i ∷ is) [] = []
paired (i ∷ is) (s ∷ ss) = (i, s) ∷ paired is ss

-- an id so many times
abbrev pub copies : ℕ → ℕ → List ℕ
copies zero id = []
copies (suc count) id = id ∷ copies count id

-- where a run ends: where the next one begins, or behind all `rows` samples
abbrev pub run_end : List (ℕ × ℕ) → ℕ → ℕ
run_end [] rows = rows
run_end (r ∷ rs) rows = r.1

-- the id of each sample
abbrev pub spread : List (ℕ × ℕ) → ℕ → List ℕ
spread [] rows = []
spread (r ∷ rs) rows = copies (run_end rs rows - r.1) r.0 ++ spread rs rows

-- the entries that runs and samples stand for
abbrev pub laid : List (ℕ × ℕ) → List Sample → Entries
laid runs samples = paired (spread runs (length samples)) samples

-- ids and places rise from run to run
abbrev pub apart_after : ℕ × ℕ → List (ℕ × ℕ) → Bool
apart_after r [] = true
apart_after r (s ∷ ss) = (nat_lt r.0 s.0 && nat_lt r.1 s.1) && apart_after s ss

abbrev pub are_apart : List (ℕ × ℕ) → Bool
are_apart [] = true
are_apart (r ∷ rs) = apart_after r rs

-- the last of a run and those behind it
abbrev pub last_run : ℕ × ℕ → List (ℕ × ℕ) → ℕ × ℕ
last_run r [] = r
last_run r (s ∷ ss) = last_run s ss

-- the runs of `rows` samples: the first begins at the first sample, and none is empty
abbrev pub are_runs : List (ℕ × ℕ) → ℕ → Bool
are_runs [] rows = nat_eq rows 0
are_runs (r ∷ rs) rows = nat_eq r.1 0 && (apart_after r rs && nat_lt (last_run r rs).1 rows)

-- the number of first elements that a test is true of
abbrev pub count_by : {X : Type 0} (p : X → Bool) → List X → ℕ
count_by p [] = 0
count_by p (x ∷ xs) = cond (p x) (suc (count_by p xs)) 0

-- the last run is of a series
abbrev pub ends_with : ℕ → List (ℕ × ℕ) → Bool
ends_with id [] = false
ends_with id (r ∷ rs) = nat_eq (last_run r rs).0 id

-- with a further run, where the last one is of another series
abbrev pub run_noted : List (ℕ × ℕ) → ℕ × ℕ → List (ℕ × ℕ)
run_noted runs new = cond (ends_with new.0 runs) runs (runs ++ new ∷ [])
