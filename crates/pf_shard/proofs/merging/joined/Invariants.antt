use Rattle.std.proofs.Common.{◌≡◌, ◌+◌, ◌++◌, length}
use Rattle.pf_shard.specs.Groups.{AreWithin}
use Rattle.pf_shard.specs.JoinedGroups.{joined_columns}
use Rattle.pf_shard.proofs.merging.joined.Given as goal

abbrev pub invariant-loop-others : goal.invariant-loop-others
invariant-loop-others l = record {
  done : l.found.items ++ joined_columns l.ones.items l.others.items ≡ joined_columns l.fn.first.items l.fn.second.items;
  ones : AreWithin 1099511627775 l.ones.items;
  others : AreWithin 4294967295 l.others.items;
}

abbrev pub decreases-loop-others : goal.decreases-loop-others
decreases-loop-others l = length l.ones.items + length l.others.items
