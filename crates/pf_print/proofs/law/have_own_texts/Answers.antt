use Rattle.pf_print.proofs.OwnTexts.{have_own_texts}
use Rattle.pf_print.proofs.law.have_own_texts.Goals as goal

pub returns : goal.returns
returns c = have_own_texts
