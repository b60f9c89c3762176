use Rattle.std.proofs.Common.{◌≡◌, length, ◌-◌, ◌≤◌, take}
use Rattle.pf_io.specs.Outside.{Grows}
use Rattle.pf_io.proofs.put.put_all.Given as goal

abbrev pub invariant-loop-at : goal.invariant-loop-at
invariant-loop-at g l = record {
  within : l.at ≤ length l.bytes;
  written : Grows (g.O.Sink.told l.initial.out) (g.O.Sink.told l.out) (take l.at l.bytes);
  steady : g.O.Sink.faults l.out ≡ g.O.Sink.faults l.initial.out;
  counted : g.O.Sink.faults l.initial.out ≤ g.O.Sink.faults l.out;
}

abbrev pub decreases-loop-at : goal.decreases-loop-at
decreases-loop-at g l = length l.bytes - l.at
