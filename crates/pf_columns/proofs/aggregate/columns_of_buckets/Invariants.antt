use Rattle.std.proofs.Common.{◌≡◌, ◌++◌, map, drop}
use Rattle.pf_columns.specs.Groups.{bucket_columns, found_at}
use Rattle.pf_columns.proofs.aggregate.columns_of_buckets.Given as goal

abbrev pub invariant-loop-i : goal.invariant-loop-i
invariant-loop-i l =
    l.found.items ++ bucket_columns (found_at l.function) (map (λ b. map (λ c. c.now) b.items) (drop l.i l.buckets)) l.len (drop l.i l.keys)
    ≡ bucket_columns (found_at l.function) (map (λ b. map (λ c. c.now) b.items) l.buckets) l.len l.keys
