use Rattle.pf_script.proofs.IdLists.{issued_alike}
use Rattle.pf_script.proofs.ids.Ids.issue.Goals as goal

pub returns-clause-ok : goal.returns-clause-ok
returns-clause-ok c = issued_alike c.args.id.now c.args.line c.args.self.now.asked c.insert.new.self c.in_ok-insert.ensures.updates
