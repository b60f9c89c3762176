use Rattle.std.proofs.Common.{◌≡◌, ◌++◌, drop}
use Rattle.pf_block.specs.Blocks.{entries_with}
use Rattle.pf_block.proofs.rows.written.Given as goal

abbrev pub invariant-loop-i : goal.invariant-loop-i
invariant-loop-i l = l.block ++ entries_with (drop l.i l.ids) (drop l.i l.rows) ≡ entries_with l.ids l.rows
