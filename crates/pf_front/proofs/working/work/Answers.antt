-- An actor without a job stays so, and no try fails without its hop.
use Rattle.std.proofs.Common.{rules}
use Rattle.pf_front.proofs.Tries.{evaluated_idle, failed_idle, worked_carried}
use Rattle.pf_front.proofs.working.work.Goals as goal

pub returns-then-is_err-clause-idle : goal.returns-then-is_err-clause-idle
returns-then-is_err-clause-idle g c = failed_idle c.args.core.now c.args.held c.fail.result c.fail.new.core c.fail.ensures.failed

pub returns-clause-idle : goal.returns-clause-idle
returns-clause-idle g c = evaluated_idle c.args.core.now c.args.held c.evaluate.result c.evaluate.new.core c.evaluate.ensures.evaluated

pub returns-then-is_err-clause-carried : goal.returns-then-is_err-clause-carried
returns-then-is_err-clause-carried g c = worked_carried _ _ c.args.core.now c.args.held c.fail.result c.fail.new.core (search rules)

pub returns-clause-carried : goal.returns-clause-carried
returns-clause-carried g c = worked_carried _ _ c.args.core.now c.args.held c.evaluate.result c.evaluate.new.core (search rules)
