use Rattle.std.proofs.Common.{◌≡◌, ◌++◌, drop, map}
use Rattle.pf_selectors.specs.SeriesColumns.{read_column}
use Rattle.pf_selectors.proofs.instant.read_columns.Given as goal

abbrev pub invariant-loop-id : goal.invariant-loop-id
invariant-loop-id l =
    l.columns.items ++ map (read_column l.reading l.snap l.times) (drop l.id-index l.ids) ≡ map (read_column l.reading l.snap l.times) l.ids
