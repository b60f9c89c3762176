use Rattle.std.proofs.Common.{◌≡◌, ◌++◌, drop, map}
use Rattle.pf_block.specs.Blocks.{entries_with, entry_of}
use Rattle.pf_block.proofs.rows.entries.Given as goal

abbrev pub invariant-loop-i : goal.invariant-loop-i
invariant-loop-i l = map entry_of l.entries.items ++ entries_with (drop l.i l.ids) (drop l.i l.rows) ≡ entries_with l.ids l.rows
