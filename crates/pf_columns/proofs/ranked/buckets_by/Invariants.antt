use Rattle.std.proofs.Common.{◌≡◌, map, take}
use Rattle.pf_columns.specs.Ranks.{buckets_by}
use Rattle.pf_columns.proofs.ranked.buckets_by.Given as goal

abbrev pub invariant-loop-i : goal.invariant-loop-i
invariant-loop-i l = map (λ b. b.items) l.found.items ≡ buckets_by (take l.i l.of) l.count
