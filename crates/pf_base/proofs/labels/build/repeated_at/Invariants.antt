use Rattle.std.proofs.Common.{◌≡◌, ◌-◌, drop}
use Rattle.pf_base.specs.LabelWalk.{repeated_name}
use Rattle.pf_base.proofs.labels.build.repeated_at.Given as goal

abbrev pub invariant-loop-i : goal.invariant-loop-i
invariant-loop-i l = repeated_name (drop (l.i - 1) l.pairs) ≡ repeated_name l.pairs
