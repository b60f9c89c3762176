use Rattle.std.proofs.Common.{◌≡◌, []}
use Rattle.pf_shard.specs.Groups.{known_over}
use Rattle.pf_shard.proofs.grouped.nothing_at.Given as goal

abbrev pub invariant-loop : goal.invariant-loop
invariant-loop l = l.found.items ≡ known_over l.counter []
