use Rattle.std.proofs.Common.{◌-◌}
use Rattle.pf_report.proofs.heads.seek.Given as goal

abbrev pub decreases-loop-place : goal.decreases-loop-place
decreases-loop-place l = l.end - l.place
