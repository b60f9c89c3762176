use Rattle.std.proofs.Common.{◌≡◌, ◌++◌, drop, length, take}
use Rattle.pf_model.specs.Lists.{Each}
use Rattle.pf_shard.specs.Groups.{IsWithin}
use Rattle.pf_shard.specs.JoinedGroups.{both_each}
use Rattle.pf_shard.proofs.merging.add_all.Given as goal

abbrev pub invariant-loop-i : goal.invariant-loop-i
invariant-loop-i l = record {
  many : length l.known.items ≡ length l.initial.known.items;
  known : Each (IsWithin 1099511627775) (drop l.i l.known.items);
  more : Each (IsWithin 4294967295) (drop l.i l.more);
  same : take l.i l.known.items ++ both_each (drop l.i l.known.items) (drop l.i l.more) ≡ both_each l.initial.known.items l.more;
}
