use Rattle.std.proofs.Common.{◌≡◌, drop, map}
use Rattle.pf_columns.specs.Ranks.{group_marks, marks_at}
use Rattle.pf_columns.proofs.ranked.marks_at.Given as goal

abbrev pub invariant-loop-places : goal.invariant-loop-places
invariant-loop-places l =
    group_marks l.rank l.wanted l.columns l.step (map (λ b. b.items) (drop l.places-index l.buckets)) l.marks.items
    ≡ marks_at l.rank l.wanted l.columns (map (λ b. b.items) l.buckets) l.step
