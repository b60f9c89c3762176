use Rattle.std.proofs.Common.{◌≡◌, ◌++◌, true, vec_len, map, drop}
use Rattle.pf_block.specs.Blocks.{entries_of, entry_of, labels_with}
use Rattle.pf_block.specs.Snaps.{are_timed}
use Rattle.pf_block.proofs.snap.known.Given as goal

abbrev pub invariant-loop-row : goal.invariant-loop-row
invariant-loop-row l = record {
  entries : map entry_of l.entries.items ++ entries_of l.index (drop l.row-index l.rows) ≡ entries_of l.index l.rows;
  labels : labels_with l.index (drop l.row-index l.rows) ≡ labels_with l.index l.rows;
  size : vec_len l.entries ≡ l.row-index;
  timed : are_timed (drop l.row-index l.rows) ≡ true;
}
