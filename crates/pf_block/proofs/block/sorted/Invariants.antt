use Rattle.std.proofs.Common.{◌≡◌, ◌++◌, map, drop}
use Rattle.pf_block.specs.Blocks.{entry_of}
use Rattle.pf_block.proofs.block.sorted.Given as goal

abbrev pub invariant-loop-entry : goal.invariant-loop-entry
invariant-loop-entry l = l.block ++ map entry_of (drop l.entry-index l.entries) ≡ map entry_of l.entries
