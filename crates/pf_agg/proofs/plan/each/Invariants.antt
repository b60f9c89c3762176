use Rattle.std.proofs.Common.{◌≡◌, ◌++◌, map, drop}
use Rattle.pf_model.specs.Aggregation.{each_group}
use Rattle.pf_agg.specs.Buckets.{grouped}
use Rattle.pf_agg.specs.Plans.{value_of_group}
use Rattle.pf_agg.proofs.plan.each.Given as goal

abbrev pub invariant-loop-i : goal.invariant-loop-i
invariant-loop-i l =
    l.found.items ++ each_group (value_of_group l.value) (grouped (drop l.i l.keys) (map (λ b. map (λ e. e.now) b.items) (drop l.i l.buckets)))
    ≡ each_group (value_of_group l.value) (grouped l.keys (map (λ b. map (λ e. e.now) b.items) l.buckets))
