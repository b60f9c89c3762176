use Rattle.pf_eval.proofs.GivenParts.{are_times}
use Rattle.pf_eval.proofs.PlainParts.{call_lawful, call_some}
use Rattle.pf_eval.proofs.plain.asks_elements.Goals as goal

pub returns-clause-some : goal.returns-clause-some
returns-clause-some c = call_some _ c.args.f c.args.args.now _ c.requires.tree c.requires.plain

pub returns-clause-lawful : goal.returns-clause-lawful
returns-clause-lawful c = call_lawful _ c.args.f c.args.args.now _ c.requires.tree c.requires.plain

pub returns-clause-times : goal.returns-clause-times
returns-clause-times c = are_times _ _ c.requires.plain.room
