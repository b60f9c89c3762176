use Rattle.std.proofs.Common.{◌≡◌, ◌++◌, drop, map}
use Rattle.pf_selectors.specs.Subqueries.{moment_column}
use Rattle.pf_selectors.proofs.moments.moment_columns.Given as goal

abbrev pub invariant-loop-column : goal.invariant-loop-column
invariant-loop-column l =
    l.found.items ++ map (moment_column l.f l.range l.at l.times) (drop l.column-index l.columns) ≡ map (moment_column l.f l.range l.at l.times) l.columns
