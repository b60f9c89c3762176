use Rattle.std.proofs.Common.{length}
use Rattle.pf_columns.proofs.joining.+stretch_over.Given as goal

abbrev pub decreases-stretch_over : goal.decreases-stretch_over
decreases-stretch_over l = length l.parts.now
