use Rattle.std.proofs.Common.{rules, inl}
use Rattle.std.specs.Prelude.{sum_by}
use Rattle.pf_script.specs.Lines.{lines_of}
use Rattle.pf_client.proofs.Writing.{grows_none}
use Rattle.pf_top.specs.Seen.{hops_seen}
use Rattle.pf_top.proofs.OutputLaws.{begins_map, part_map, run_printed, run_stopped}
use Rattle.pf_top.proofs.driver.run_loaded.Goals as goal

pub returns-in_err-queries-clause-begun : goal.returns-in_err-queries-clause-begun
returns-in_err-queries-clause-begun g c is held are = inl (grows_none (g.O.Sink.told c.args.out.now))

pub returns-in_err-full-clause-begun : goal.returns-in_err-full-clause-begun
returns-in_err-full-clause-begun g c is held are =
    begins_map _ _ (g.O.Sink.told c.args.out.now) (g.O.Sink.told c.run_script.new.out) (run_stopped c.args.limits (hops_seen g.H.Hop.most g.H.Hop.faults c.args.hops.now) (sum_by g.H.Hop.faults c.run_script.new.hops) held (lines_of c.args.script.now))
    (c.run_script.ensures.begun (search rules) held (search rules))

pub returns-in_err-full-clause-broken : goal.returns-in_err-full-clause-broken
returns-in_err-full-clause-broken g c is held are =
    part_map _ _ (g.O.Sink.told c.args.out.now) (g.O.Sink.told c.run_script.new.out) (run_stopped c.args.limits (hops_seen g.H.Hop.most g.H.Hop.faults c.args.hops.now) (sum_by g.H.Hop.faults c.run_script.new.hops) held (lines_of c.args.script.now))
    (c.run_script.ensures.broken (search rules) held (search rules))

pub returns-clause-printed : goal.returns-clause-printed
returns-clause-printed g c held are =
    run_printed c.args.limits (hops_seen g.H.Hop.most g.H.Hop.faults c.args.hops.now) (sum_by g.H.Hop.faults c.run_script.new.hops) held (lines_of c.args.script.now) c.in_ok-full.full _ _ (g.O.Sink.told c.args.out.now) (g.O.Sink.told c.run_script.new.out) (search rules) (search rules)
    (c.in_ok-full.ensures.written held (search rules))
