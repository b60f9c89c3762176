use Rattle.std.proofs.Common.{◌≤◌, length}
use Rattle.pf_selectors.proofs.RunValues.{AreNoted}
use Rattle.pf_selectors.proofs.windows.note_present.Given as goal

abbrev pub invariant-loop-i : goal.invariant-loop-i
invariant-loop-i l = record {
  within : l.count ≤ length l.samples;
  noted : AreNoted l.range l.samples l.times l.fn.values l.values l.i;
}
