use Rattle.std.proofs.Common.{◌≡◌, map, []}
use Rattle.pf_model.specs.Merging.{below}
use Rattle.pf_columns.proofs.ranked.empty_buckets.Given as goal

abbrev pub invariant-loop : goal.invariant-loop
invariant-loop l = map (λ b. b.items) l.found.items ≡ below (λ g. []) l.counter
