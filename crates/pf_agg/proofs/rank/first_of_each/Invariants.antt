use Rattle.std.proofs.Common.{◌≡◌, ◌++◌, map, drop, take}
use Rattle.pf_base.specs.Sorting.{isort}
use Rattle.pf_model.specs.Lists.{joined}
use Rattle.pf_agg.specs.Ranks.{order_of}
use Rattle.pf_agg.proofs.rank.first_of_each.Given as goal

abbrev pub invariant-loop-bucket : goal.invariant-loop-bucket
invariant-loop-bucket l =
    l.found.items ++ joined (λ es. take l.most (isort (order_of l.rank) es)) (map (λ b. map (λ e. e.now) b.items) (drop l.bucket-index l.buckets))
    ≡ joined (λ es. take l.most (isort (order_of l.rank) es)) (map (λ b. map (λ e. e.now) b.items) l.buckets)
