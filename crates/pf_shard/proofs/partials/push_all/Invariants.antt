use Rattle.std.proofs.Common.{◌≡◌, ◌++◌, drop}
use Rattle.pf_shard.proofs.partials.push_all.Given as goal

abbrev pub invariant-loop-group : goal.invariant-loop-group
invariant-loop-group l = l.found.items ++ drop l.group-index l.groups ≡ l.initial.found.items ++ l.groups
