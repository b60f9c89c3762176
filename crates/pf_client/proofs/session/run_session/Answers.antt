use Rattle.std.proofs.Common.{map, rules}
use Rattle.std.specs.Prelude.{sum_by}
use Rattle.pf_script.specs.Lines.{lines_of}
use Rattle.pf_client.proofs.Reports.{short_script, summarized}
use Rattle.pf_client.proofs.Tries.{have_cause}
use Rattle.pf_client.specs.Tries.{HaveCause}
use Rattle.pf_client.proofs.session.run_session.Goals as goal

pub returns-clause-summary : goal.returns-clause-summary
returns-clause-summary g c held are =
    let done = c.in_ok-ended.ensures.ended c.args.limits (c.in_ok-client.ensures.going c.args.loaded (lines_of c.args.script.now)) (c.in_ok-client.ensures.counted c.args.loaded) in
    summarized c.args.limits c.args.loaded (lines_of c.args.script.now) c.in_ok-ended.ended.full c.in_ok-ended.ended.tally done.0.0 c.run_lines_counted.new.client held (search rules) are
    c.requires.can_run.right (short_script c.args.script.now (search rules)) (search rules) done.0.1 done.1
    (HaveCause (map g.H.Hop.most c.args.hops.now) (sum_by g.H.Hop.faults c.args.hops.now) (sum_by g.H.Hop.faults c.run_lines_counted.new.hops))
    (have_cause g.H.Hop.faults g.H.Hop.most g.met.H.Hop.within_most c.args.hops.now c.run_lines_counted.new.hops c.in_ok-client.client.core c.run_lines_counted.new.client.core
    c.run_lines_counted.ensures.most c.in_ok-client.ensures.untried c.in_ok-ended.ensures.carried)
