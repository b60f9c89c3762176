use Rattle.std.proofs.Common.{◌≡◌, ◌++◌, drop}
use Rattle.pf_columns.specs.Ranks.{entries_at}
use Rattle.pf_columns.proofs.ranked.entries_at.Given as goal

abbrev pub invariant-loop-place : goal.invariant-loop-place
invariant-loop-place l =
    l.entries.items ++ entries_at l.rank l.columns l.step (drop l.place-index l.places) ≡ entries_at l.rank l.columns l.step l.places
