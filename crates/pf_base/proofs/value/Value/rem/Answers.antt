use Rattle.pf_base.proofs.Numbers.{remainder_at}
use Rattle.pf_base.proofs.value.Value.rem.Goals as goal

pub returns : goal.returns
returns c = remainder_at c.self.inside.micros c.other.inside.micros c.args.self c.args.other c.self.invariant c.other.invariant c.self.view_is c.other.view_is c.if-other-eq0.false
