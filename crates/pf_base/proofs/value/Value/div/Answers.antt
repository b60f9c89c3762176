use Rattle.pf_base.proofs.Numbers.{dividend_fits, divides, quotient_at}
use Rattle.pf_base.proofs.value.Value.div.Goals as goal

pub overflow_mul-self-inside : goal.overflow_mul-self-inside
overflow_mul-self-inside c = dividend_fits c.self.inside.micros c.self.invariant

pub nonzero_div-self-inside : goal.nonzero_div-self-inside
nonzero_div-self-inside c = divides c.self.inside.micros c.other.inside.micros c.self.invariant c.other.invariant c.if-other-eq0.false

pub returns : goal.returns
returns c = quotient_at c.self.inside.micros c.other.inside.micros c.args.self c.args.other c.new.result c.self.invariant c.other.invariant c.self.view_is c.other.view_is c.if-other-eq0.false c.new.ensures
