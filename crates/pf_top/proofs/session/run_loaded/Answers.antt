use Rattle.std.proofs.Common.{rules}
use Rattle.std.specs.Prelude.{sum_by}
use Rattle.pf_script.specs.Lines.{lines_of}
use Rattle.pf_top.specs.Seen.{hops_seen}
use Rattle.pf_top.proofs.SessionLaws.{both_ok, summed_by}
use Rattle.pf_top.proofs.session.run_loaded.Goals as goal

pub returns : goal.returns
returns g c =
    both_ok _ _ _ c.summed.result
    (λ o status text held are. summed_by c.args.limits (hops_seen g.H.Hop.most g.H.Hop.faults c.args.hops.now) (sum_by g.H.Hop.faults c.run_session.new.hops) held c.args.seed c.in_ok-summary.summary.queries (lines_of c.args.script.now) c.in_ok-summary.summary.full
    c.in_ok-summary.summary.tally o.status o.text.items (search rules) status text (c.in_ok-summary.ensures.summary held are))
    c.summed.ensures.status c.summed.ensures.text
