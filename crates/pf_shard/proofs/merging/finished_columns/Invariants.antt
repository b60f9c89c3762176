use Rattle.std.proofs.Common.{◌≡◌, ◌++◌, length, map}
use Rattle.std.specs.Vec.Iter.{into_iter_items, into_iter_len}
use Rattle.pf_shard.specs.Groups.{AreWithin}
use Rattle.pf_shard.specs.JoinedGroups.{finished_column}
use Rattle.pf_shard.proofs.merging.finished_columns.Given as goal

abbrev pub invariant-loop-column : goal.invariant-loop-column
invariant-loop-column l = record {
  done : l.found.items ++ map (finished_column l.op) (into_iter_items l.column-iterator) ≡ map (finished_column l.op) l.fn.columns.items;
  within : AreWithin 1099511627775 (into_iter_items l.column-iterator);
  left : into_iter_len l.column-iterator ≡ length (into_iter_items l.column-iterator);
}
