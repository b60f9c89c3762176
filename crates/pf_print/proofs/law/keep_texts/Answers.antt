use Rattle.pf_print.proofs.OwnTexts.{keep_texts}
use Rattle.pf_print.proofs.law.keep_texts.Goals as goal

pub returns : goal.returns
returns c = keep_texts
