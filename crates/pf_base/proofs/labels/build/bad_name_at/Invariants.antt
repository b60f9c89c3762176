use Rattle.std.proofs.Common.{◌≡◌, drop}
use Rattle.pf_base.specs.LabelBuild.{bad_name}
use Rattle.pf_base.proofs.labels.build.bad_name_at.Given as goal

abbrev pub invariant-loop-i : goal.invariant-loop-i
invariant-loop-i l = bad_name (drop l.i l.pairs) ≡ bad_name l.pairs
