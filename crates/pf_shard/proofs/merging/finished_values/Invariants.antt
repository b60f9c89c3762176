use Rattle.std.proofs.Common.{◌≡◌, ◌++◌, drop, map}
use Rattle.pf_model.specs.Lists.{Each}
use Rattle.pf_shard.specs.Groups.{IsWithin}
use Rattle.pf_shard.specs.JoinedGroups.{finished_or_none}
use Rattle.pf_shard.proofs.merging.finished_values.Given as goal

abbrev pub invariant-loop-known : goal.invariant-loop-known
invariant-loop-known l = record {
  done : l.found.items ++ map (finished_or_none l.op) (drop l.known-index l.partials) ≡ map (finished_or_none l.op) l.partials;
  within : Each (IsWithin 1099511627775) (drop l.known-index l.partials);
}
