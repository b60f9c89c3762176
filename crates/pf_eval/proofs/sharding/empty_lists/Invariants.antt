use Rattle.std.proofs.Common.{◌≡◌, map, []}
use Rattle.pf_model.specs.Merging.{below}
use Rattle.pf_eval.proofs.sharding.empty_lists.Given as goal

abbrev pub invariant-loop : goal.invariant-loop
invariant-loop l = map (λ ids. ids.items) l.found.items ≡ below (λ shard. []) l.counter
