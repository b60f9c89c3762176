use Rattle.std.proofs.Common.{◌≡◌, map}
use Rattle.pf_columns.specs.Ranks.{marks_by}
use Rattle.pf_columns.proofs.ranked.marks_by.Given as goal

abbrev pub invariant-loop-i : goal.invariant-loop-i
invariant-loop-i l = map (λ r. r.items) l.found.items ≡ marks_by l.rank l.params l.columns (map (λ b. b.items) l.buckets) l.i
