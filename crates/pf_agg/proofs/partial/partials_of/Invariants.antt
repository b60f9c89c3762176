use Rattle.std.proofs.Common.{◌≡◌, ◌++◌, map, drop}
use Rattle.pf_agg.specs.Buckets.{grouped}
use Rattle.pf_columns.specs.Partials.{partials_of, parts_of}
use Rattle.pf_agg.proofs.partial.partials_of.Given as goal

abbrev pub invariant-loop-i : goal.invariant-loop-i
invariant-loop-i l =
    parts_of l.found.items ++ partials_of (grouped (drop l.i l.keys) (map (λ b. map (λ e. e.now) b.items) (drop l.i l.buckets)))
    ≡ partials_of (grouped l.keys (map (λ b. map (λ e. e.now) b.items) l.buckets))
