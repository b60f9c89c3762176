use Rattle.std.specs.Prelude.{◌≡◌, ◌≤◌, length, map, sum_by}
use Rattle.pf_front.specs.Works.{AreCarried}
use Rattle.pf_script.specs.Lines.{lines_of}
use Rattle.pf_client.proofs.Sending.{Sends}
use Rattle.pf_client.specs.Drives.{CanRun}
use Rattle.pf_client.specs.Hands.{HoldsJobs}
use Rattle.pf_client.specs.Queries.{IsPart}
use Rattle.pf_client.proofs.drive.run_lines.Given as goal

abbrev pub invariant-loop-line : goal.invariant-loop-line
invariant-loop-line g l = record {
  sends : Sends (g.O.Sink.told l.fn.out) (g.O.Sink.told l.out) l.fn.loaded (lines_of l.script) l.fn.client l.line-index l.client;
  can_run : CanRun l.script l.line-index l.loaded;
  part : IsPart l.fn.loaded l.loaded;
  holds : HoldsJobs l.client;
  client : l.client.client ≡ l.fn.client.client;
  actors : length l.hops ≡ 32;
  steady : g.O.Sink.faults l.out ≡ g.O.Sink.faults l.fn.out;
  carried : AreCarried (sum_by g.H.Hop.faults l.fn.hops) (sum_by g.H.Hop.faults l.hops) l.fn.client.core l.client.core;
  risen : sum_by g.H.Hop.faults l.fn.hops ≤ sum_by g.H.Hop.faults l.hops;
  most : map g.H.Hop.most l.hops ≡ map g.H.Hop.most l.fn.hops;
}
