use Rattle.std.specs.Prelude.{◌≡◌, ◌≤◌, [], ℕ, List, length, map, sum_by}
use Rattle.pf_base.specs.declared.plain.Limits.{Limits}
use Rattle.pf_journal.specs.Summaries.{nothing_counted}
use Rattle.pf_front.specs.Works.{AreCarried}
use Rattle.pf_script.specs.Lines.{lines_of}
use Rattle.pf_client.specs.Drives.{CanRun}
use Rattle.pf_client.specs.Going.{IsGoing}
use Rattle.pf_client.specs.Hands.{HoldsJobs}
use Rattle.pf_client.specs.Queries.{IsPart}
use Rattle.pf_client.specs.Tallies.{IsCounted}
use Rattle.pf_client.proofs.session.run_lines_counted.Given as goal

abbrev pub invariant-loop-line : goal.invariant-loop-line
invariant-loop-line g l = record {
  going : (limits : Limits) → IsGoing l.fn.loaded limits (lines_of l.script) 0 [] l.fn.client → (sent : List ℕ) × IsGoing l.fn.loaded limits (lines_of l.script) l.line-index sent l.client;
  counted : (limits : Limits) → IsGoing l.fn.loaded limits (lines_of l.script) 0 [] l.fn.client → IsCounted l.fn.loaded nothing_counted l.fn.client → IsCounted l.fn.loaded l.tally l.client;
  can_run : CanRun l.script l.line-index l.loaded;
  part : IsPart l.fn.loaded l.loaded;
  holds : HoldsJobs l.client;
  client : l.client.client ≡ l.fn.client.client;
  actors : length l.hops ≡ 32;
  carried : AreCarried (sum_by g.H.Hop.faults l.fn.hops) (sum_by g.H.Hop.faults l.hops) l.fn.client.core l.client.core;
  risen : sum_by g.H.Hop.faults l.fn.hops ≤ sum_by g.H.Hop.faults l.hops;
  most : map g.H.Hop.most l.hops ≡ map g.H.Hop.most l.fn.hops;
}
