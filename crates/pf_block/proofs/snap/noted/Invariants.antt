use Rattle.std.proofs.Common.{◌≡◌, ◌++◌, true, map, drop}
use Rattle.pf_block.specs.Blocks.{entries_of, entry_of, labels_with}
use Rattle.pf_block.specs.IndexStacks.{AreBehind}
use Rattle.pf_block.specs.Snaps.{are_timed}
use Rattle.pf_block.proofs.snap.noted.Given as goal

abbrev pub invariant-loop-row : goal.invariant-loop-row
invariant-loop-row l = record {
  entries : map entry_of l.entries.items ++ entries_of (l.index ++ l.new) (drop l.row-index l.rows) ≡ map entry_of l.fn.entries.items ++ entries_of (l.index ++ l.fn.new) l.rows;
  labels : labels_with (l.index ++ l.new) (drop l.row-index l.rows) ≡ labels_with (l.index ++ l.fn.new) l.rows;
  timed : are_timed (drop l.row-index l.rows) ≡ true;
  behind : AreBehind l.index l.new;
}
