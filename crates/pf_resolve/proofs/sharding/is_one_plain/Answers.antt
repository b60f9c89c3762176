use Rattle.pf_resolve.proofs.Selectors.{not_one_plain}
use Rattle.pf_resolve.proofs.sharding.is_one_plain.Goals as goal

pub returns-else-args-eq1 : goal.returns-else-args-eq1
returns-else-args-eq1 c = not_one_plain c.args.args.now c.if-args-eq1.false
