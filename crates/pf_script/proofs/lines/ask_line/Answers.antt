use Rattle.pf_journal.specs.Scripts.{ask}
use Rattle.pf_script.specs.declared.lines.Asking.{Asking}
use Rattle.pf_script.proofs.Asked.{asked_by}
use Rattle.pf_script.proofs.lines.ask_line.Goals as goal

pub returns-clause-exact : goal.returns-clause-exact
returns-clause-exact c = asked_by _ _ _ (λ (a : Asking). ask a.id a.tenant c.args.words.now.start c.args.words.now.end c.args.words.now.step a.query) c.in_ok-asking.ensures.exact
