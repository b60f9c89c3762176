use Rattle.std.proofs.Common.{◌≡◌, ◌++◌, drop, map}
use Rattle.pf_selectors.specs.SeriesColumns.{range_column}
use Rattle.pf_selectors.proofs.windows.range_columns.Given as goal

abbrev pub invariant-loop-id : goal.invariant-loop-id
invariant-loop-id l =
    l.columns.items ++ map (range_column l.f l.range l.snap l.times) (drop l.id-index l.ids) ≡ map (range_column l.f l.range l.snap l.times) l.ids
