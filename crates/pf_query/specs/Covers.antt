-- Whether evaluated cells cover the runs that a query's jobs were made of. This project's own.
use Rattle.std.specs.Prelude.{◌≡◌, Bool, true, false, cond, ◌&&◌, Option, Some, None, List, [], ◌∷◌, ◌++◌, nat_le}
use Rattle.pf_base.specs.GridLists.{GridData}
use Rattle.pf_extent.specs.declared.done.DoneCells.{DoneCells}
use Rattle.pf_model.specs.Lists.{Each}
use Rattle.pf_query.specs.Jobs.{is_empty}
use Rattle.pf_query.specs.Works.{WorkData, last_of}

-- a run begins and ends within another
abbrev pub lies_in : GridData → GridData → Bool
lies_in r run = nat_le run.start r.start && nat_le (last_of r) (last_of run)

-- runs but the first ones that lie in a run
abbrev pub beyond : GridData → List GridData → List GridData
beyond run [] = []
beyond run (r ∷ rs) = cond (lies_in r run) (beyond run rs) (r ∷ rs)

-- each run lies in that of some cells, in their order
abbrev pub covers : List GridData → List DoneCells → Bool
covers rs [] = is_empty rs
covers rs (d ∷ ds) = covers (beyond d.run rs) ds

-- the runs of a query's jobs are covered; none are where it isn't planned
abbrev pub is_covered_by : Option WorkData → List DoneCells → Bool
is_covered_by None ds = false
is_covered_by (Some w) ds = covers w.runs ds

-- the law: with cells in front that runs in front lie in, the runs are covered as well
abbrev pub CoverMore : Type 0
CoverMore =
    (own rest : List GridData) (d : DoneCells) (ds : List DoneCells) → Each (λ r. lies_in r d.run ≡ true) own → covers rest ds ≡ true
    → covers (own ++ rest) (d ∷ ds) ≡ true
