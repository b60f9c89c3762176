-- Memory ran out.
use Rattle.std.proofs.Common.{refl}
use Rattle.pf_front.proofs.Offers.{starved_kept}
use Rattle.pf_front.proofs.keeping.keep_found.Goals as goal

pub returns-clause-works : goal.returns-clause-works
returns-clause-works c = (starved_kept c.args.core.now c.args.query c.lack_query.new.self c.requires.evaluable c.lack_query.ensures.lacked).0

pub returns-clause-kept : goal.returns-clause-kept
returns-clause-kept c =
    rw c.in-Err.is (refl, (starved_kept c.args.core.now c.args.query c.lack_query.new.self c.requires.evaluable c.lack_query.ensures.lacked).1)
