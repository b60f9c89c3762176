use Rattle.std.proofs.Common.{sym}
use Rattle.pf_base.proofs.DigitCounts.{length_exact, length_zero}
use Rattle.pf_base.proofs.number_text.digits_in.Goals as goal

pub returns-then-number-eq0-clause-count : goal.returns-then-number-eq0-clause-count
returns-then-number-eq0-clause-count c = sym (length_zero c.args.number c.if-number-eq0.true)

pub returns-clause-count : goal.returns-clause-count
returns-clause-count c = sym (length_exact c.ilog10.result c.args.number c.ilog10.ensures.power_le c.ilog10.ensures.next_power_gt c.ranges.number.fits)
