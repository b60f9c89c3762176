use Rattle.pf_script.proofs.LineTexts.{delete_none, delete_some}
use Rattle.pf_script.proofs.lines.delete_of.Goals as goal

pub returns-in-Some-clause-exact : goal.returns-in-Some-clause-exact
returns-in-Some-clause-exact c = rw (delete_some c.args.words.now _ c.in-Some.ensures) c.delete_line.ensures.exact

pub returns-in-None-clause-exact : goal.returns-in-None-clause-exact
returns-in-None-clause-exact c = delete_none c.args.words.now c.in-None.ensures
