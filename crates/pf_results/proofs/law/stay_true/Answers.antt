use Rattle.pf_results.proofs.Growing.{stay_true}
use Rattle.pf_results.proofs.law.stay_true.Goals as goal

pub returns : goal.returns
returns c = stay_true
