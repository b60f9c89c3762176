use Rattle.std.proofs.Common.{◌≡◌, ◌≤◌}
use Rattle.pf_core.specs.Cores.{tries_left}
use Rattle.pf_front.specs.Settling.{IsBegun}
use Rattle.pf_front.specs.Works.{WorksOn}
use Rattle.pf_front.proofs.answering.work_all.Given as goal

abbrev pub invariant-loop-told : goal.invariant-loop-told
invariant-loop-told g l = record {
  works : WorksOn (g.H.Hop.faults l.initial.hop) (g.H.Hop.faults l.hop) l.initial.core l.core;
  begun : IsBegun l.core l.query;
  counted : g.H.Hop.faults l.initial.hop ≤ g.H.Hop.faults l.hop;
  most : g.H.Hop.most l.hop ≡ g.H.Hop.most l.initial.hop;
}

abbrev pub decreases-loop-told : goal.decreases-loop-told
decreases-loop-told g l = tries_left l.core
