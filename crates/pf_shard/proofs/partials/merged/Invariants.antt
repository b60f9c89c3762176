use Rattle.std.proofs.Common.{◌≤◌, ◌+◌, ◌-◌, ◌++◌, drop, length}
use Rattle.pf_model.specs.Merging.{merged_groups}
use Rattle.pf_columns.specs.Partials.{parts_of}
use Rattle.pf_shard.proofs.MergedGroups.{IsLeft}
use Rattle.pf_shard.proofs.partials.merged.Given as goal

abbrev pub invariant-loop-i : goal.invariant-loop-i
invariant-loop-i l = record {
  within : l.i ≤ length l.first;
  inside : l.j ≤ length l.second;
  left : IsLeft l.found.items (drop l.i l.first) (drop l.j l.second) (merged_groups (parts_of l.first ++ parts_of l.second));
}

abbrev pub decreases-loop-i : goal.decreases-loop-i
decreases-loop-i l = (length l.first + length l.second) - (l.i + l.j)
