use Rattle.std.proofs.Common.{◌≡◌, ◌++◌, drop}
use Rattle.pf_base.specs.Grids.{points}
use Rattle.pf_columns.specs.Columns.{rows_in}
use Rattle.pf_columns.proofs.gather.rows_of.Given as goal

abbrev pub invariant-loop-column : goal.invariant-loop-column
invariant-loop-column l =
    l.rows.items ++ rows_in (points l.grid) l.from (drop l.column-index l.columns)
    ≡ rows_in (points l.grid) l.from l.columns
