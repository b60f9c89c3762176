use Rattle.std.proofs.Common.{rules, inl, inr, [], map}
use Rattle.std.specs.Prelude.{sum_by}
use Rattle.pf_front.specs.Works.{AreCarried}
use Rattle.pf_script.specs.Lines.{lines_of}
use Rattle.pf_client.proofs.Reports.{short_script}
use Rattle.pf_client.proofs.Sending.{begun_short, report_begun, report_written}
use Rattle.pf_client.proofs.Tries.{have_cause}
use Rattle.pf_client.proofs.Writing.{grows_none}
use Rattle.pf_client.specs.Replays.{why_by}
use Rattle.pf_client.specs.Tries.{HaveCause}
use Rattle.pf_client.proofs.drive.run_script.Goals as goal

pub returns-in_err-client-clause-begun : goal.returns-in_err-client-clause-begun
returns-in_err-client-clause-begun g c is held are = inl (grows_none (g.O.Sink.told c.args.out.now))

pub returns-in_err-stopped-clause-broken : goal.returns-in_err-stopped-clause-broken
returns-in_err-stopped-clause-broken g c is held are =
    begun_short c.args.limits c.args.loaded (lines_of c.args.script.now) held are c.requires.can_run.right (short_script c.args.script.now (search rules)) (HaveCause (map g.H.Hop.most c.args.hops.now) (sum_by g.H.Hop.faults c.args.hops.now) (sum_by g.H.Hop.faults c.run_lines.new.hops))
    c.requires.can_run.following (AreCarried (sum_by g.H.Hop.faults c.args.hops.now) (sum_by g.H.Hop.faults c.run_lines.new.hops) c.in_ok-client.client.core)
    (λ core. have_cause g.H.Hop.faults g.H.Hop.most g.met.H.Hop.within_most c.args.hops.now c.run_lines.new.hops c.in_ok-client.client.core core c.run_lines.ensures.most c.in_ok-client.ensures.untried)
    _ c.in_ok-client.ensures.client (g.O.Sink.told c.args.out.now) (g.O.Sink.told c.run_lines.new.out)
    (c.in_err-stopped.ensures.broken c.args.limits (c.in_ok-client.ensures.going c.args.loaded (lines_of c.args.script.now)))

pub returns-in_err-stopped-clause-begun : goal.returns-in_err-stopped-clause-begun
returns-in_err-stopped-clause-begun g c is held are =
    inr (begun_short c.args.limits c.args.loaded (lines_of c.args.script.now) held are c.requires.can_run.right (short_script c.args.script.now (search rules)) (HaveCause (map g.H.Hop.most c.args.hops.now) (sum_by g.H.Hop.faults c.args.hops.now) (sum_by g.H.Hop.faults c.run_lines.new.hops))
    c.requires.can_run.following (AreCarried (sum_by g.H.Hop.faults c.args.hops.now) (sum_by g.H.Hop.faults c.run_lines.new.hops) c.in_ok-client.client.core)
    (λ core. have_cause g.H.Hop.faults g.H.Hop.most g.met.H.Hop.within_most c.args.hops.now c.run_lines.new.hops c.in_ok-client.client.core core c.run_lines.ensures.most c.in_ok-client.ensures.untried)
    _ c.in_ok-client.ensures.client (g.O.Sink.told c.args.out.now) (g.O.Sink.told c.run_lines.new.out)
    (c.in_err-stopped.ensures.broken c.args.limits (c.in_ok-client.ensures.going c.args.loaded (lines_of c.args.script.now))))

pub returns-in_err-write_rest-clause-broken : goal.returns-in_err-write_rest-clause-broken
returns-in_err-write_rest-clause-broken g c is held are =
    report_begun c.args.limits c.args.loaded (lines_of c.args.script.now) held are c.requires.can_run.right (short_script c.args.script.now (search rules)) (HaveCause (map g.H.Hop.most c.args.hops.now) (sum_by g.H.Hop.faults c.args.hops.now) (sum_by g.H.Hop.faults c.run_lines.new.hops))
    c.in_ok-stopped.stopped (g.O.Sink.told c.args.out.now) (g.O.Sink.told c.run_lines.new.out) (g.O.Sink.told c.write_rest.new.out) c.run_lines.new.client (search rules) (search rules)
    (c.in_ok-stopped.ensures.stopped c.args.limits (c.in_ok-client.ensures.going c.args.loaded (lines_of c.args.script.now)))
    (have_cause g.H.Hop.faults g.H.Hop.most g.met.H.Hop.within_most c.args.hops.now c.run_lines.new.hops c.in_ok-client.client.core c.run_lines.new.client.core c.run_lines.ensures.most
    c.in_ok-client.ensures.untried c.in_ok-stopped.ensures.carried)
    c.in_err-write_rest.ensures.begun

pub returns-in_err-write_rest-clause-begun : goal.returns-in_err-write_rest-clause-begun
returns-in_err-write_rest-clause-begun g c is held are =
    inr (report_begun c.args.limits c.args.loaded (lines_of c.args.script.now) held are c.requires.can_run.right (short_script c.args.script.now (search rules)) (HaveCause (map g.H.Hop.most c.args.hops.now) (sum_by g.H.Hop.faults c.args.hops.now) (sum_by g.H.Hop.faults c.run_lines.new.hops))
    c.in_ok-stopped.stopped (g.O.Sink.told c.args.out.now) (g.O.Sink.told c.run_lines.new.out) (g.O.Sink.told c.write_rest.new.out) c.run_lines.new.client (search rules) (search rules)
    (c.in_ok-stopped.ensures.stopped c.args.limits (c.in_ok-client.ensures.going c.args.loaded (lines_of c.args.script.now)))
    (have_cause g.H.Hop.faults g.H.Hop.most g.met.H.Hop.within_most c.args.hops.now c.run_lines.new.hops c.in_ok-client.client.core c.run_lines.new.client.core c.run_lines.ensures.most
    c.in_ok-client.ensures.untried c.in_ok-stopped.ensures.carried)
    c.in_err-write_rest.ensures.begun)

pub returns-in_err-full-clause-begun : goal.returns-in_err-full-clause-begun
returns-in_err-full-clause-begun g c is held are =
    inr (report_begun c.args.limits c.args.loaded (lines_of c.args.script.now) held are c.requires.can_run.right (short_script c.args.script.now (search rules)) (HaveCause (map g.H.Hop.most c.args.hops.now) (sum_by g.H.Hop.faults c.args.hops.now) (sum_by g.H.Hop.faults c.run_lines.new.hops))
    c.in_ok-stopped.stopped (g.O.Sink.told c.args.out.now) (g.O.Sink.told c.run_lines.new.out) (g.O.Sink.told c.write_rest.new.out) c.run_lines.new.client (search rules) (search rules)
    (c.in_ok-stopped.ensures.stopped c.args.limits (c.in_ok-client.ensures.going c.args.loaded (lines_of c.args.script.now)))
    (have_cause g.H.Hop.faults g.H.Hop.most g.met.H.Hop.within_most c.args.hops.now c.run_lines.new.hops c.in_ok-client.client.core c.run_lines.new.client.core c.run_lines.ensures.most
    c.in_ok-client.ensures.untried c.in_ok-stopped.ensures.carried)
    ([], c.in_ok-write_rest.ensures.written))

pub returns-clause-written : goal.returns-clause-written
returns-clause-written g c held are =
    report_written c.args.limits c.args.loaded (lines_of c.args.script.now) held are c.requires.can_run.right (short_script c.args.script.now (search rules)) (HaveCause (map g.H.Hop.most c.args.hops.now) (sum_by g.H.Hop.faults c.args.hops.now) (sum_by g.H.Hop.faults c.run_lines.new.hops))
    c.in_ok-stopped.stopped (g.O.Sink.told c.args.out.now) (g.O.Sink.told c.run_lines.new.out) (g.O.Sink.told c.write_rest.new.out) c.run_lines.new.client (search rules) (search rules)
    (c.in_ok-stopped.ensures.stopped c.args.limits (c.in_ok-client.ensures.going c.args.loaded (lines_of c.args.script.now)))
    (have_cause g.H.Hop.faults g.H.Hop.most g.met.H.Hop.within_most c.args.hops.now c.run_lines.new.hops c.in_ok-client.client.core c.run_lines.new.client.core c.run_lines.ensures.most
    c.in_ok-client.ensures.untried c.in_ok-stopped.ensures.carried)
    (why_by c.in_ok-full.full) c.in_ok-full.ensures.full
    c.in_ok-write_rest.ensures.written
