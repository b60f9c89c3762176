use Rattle.std.proofs.Common.{◌≡◌, ◌≤◌, ◌*◌, ◌^◌}
use Rattle.pf_base.specs.NumberScans.{capped}
use Rattle.pf_base.proofs.number.with_zeros.Given as goal

abbrev pub invariant-loop-zeros : goal.invariant-loop-zeros
invariant-loop-zeros l = record { within : l.size ≤ 1000000000000000000; same : capped (l.size * 10 ^ l.zeros) ≡ capped (l.fn.size * 10 ^ l.fn.zeros) }

abbrev pub decreases-loop-zeros : goal.decreases-loop-zeros
decreases-loop-zeros l = l.zeros
