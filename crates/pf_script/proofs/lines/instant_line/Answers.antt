use Rattle.pf_journal.specs.Scripts.{instant}
use Rattle.pf_script.specs.declared.lines.Asking.{Asking}
use Rattle.pf_script.proofs.Asked.{asked_by}
use Rattle.pf_script.proofs.lines.instant_line.Goals as goal

pub returns-clause-exact : goal.returns-clause-exact
returns-clause-exact c = asked_by _ _ _ (λ (a : Asking). instant a.id a.tenant c.args.words.now.time a.query) c.in_ok-asking.ensures.exact
