use Rattle.std.proofs.Common.{◌≡◌, ◌++◌, ◌+◌, ◌≤◌, length, drop}
use Rattle.pf_block.specs.Blocks.{labels_with, row_ids}
use Rattle.pf_block.proofs.rows.new_labels.Given as goal

abbrev pub invariant-loop-i : goal.invariant-loop-i
invariant-loop-i l = record {
  next : l.next ≡ length (l.snap.labels ++ l.new.items);
  few : l.next ≤ length l.snap.labels + l.i;
  ids : row_ids (l.snap.labels ++ l.new.items) (drop l.i l.rows) ≡ drop l.i l.ids;
  labels : labels_with (l.snap.labels ++ l.new.items) (drop l.i l.rows) ≡ labels_with l.snap.labels l.rows;
}
