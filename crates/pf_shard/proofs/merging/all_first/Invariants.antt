use Rattle.std.proofs.Common.{◌≡◌}
use Rattle.pf_model.specs.Merging.{below}
use Rattle.pf_columns.specs.Steps.{bad_in}
use Rattle.pf_shard.specs.JoinedGroups.{first_of}
use Rattle.pf_shard.proofs.merging.all_first.Given as goal

abbrev pub invariant-loop-i : goal.invariant-loop-i
invariant-loop-i l = l.found.items ≡ below (λ k. first_of (bad_in l.a k) (bad_in l.b k)) l.i
