use Rattle.std.proofs.Common.{◌≡◌, [], map}
use Rattle.pf_model.specs.Merging.{below}
use Rattle.pf_shard.specs.Groups.{known_over}
use Rattle.pf_shard.proofs.grouped.Known.new.Given as goal

abbrev pub invariant-loop : goal.invariant-loop
invariant-loop l = map (λ v. v.items) l.lists.items ≡ below (λ g. known_over l.len []) l.counter
