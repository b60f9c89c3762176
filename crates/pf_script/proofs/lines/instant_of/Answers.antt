use Rattle.pf_script.proofs.LineTexts.{instant_none, instant_some}
use Rattle.pf_script.specs.IdLists.{issued_in}
use Rattle.pf_script.proofs.lines.instant_of.Goals as goal

pub returns-in-Some-clause-exact : goal.returns-in-Some-clause-exact
returns-in-Some-clause-exact c = rw (instant_some (issued_in c.args.ids.now) c.args.words.now _ c.in-Some.ensures) c.instant_line.ensures.exact

pub returns-in-None-clause-exact : goal.returns-in-None-clause-exact
returns-in-None-clause-exact c = instant_none (issued_in c.args.ids.now) c.args.words.now c.in-None.ensures
