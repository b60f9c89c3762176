use Rattle.std.proofs.Common.{◌∙◌, ap, sym}
use Rattle.std.specs.Str.{all_ascii_digits}
use Rattle.pf_base.proofs.Digits.{split_here, split_end, all_more}
use Rattle.pf_base.proofs.number.split_digits.Goals as goal

pub returns-then-not-is_ascii_digit-clause-digits :
    goal.returns-then-not-is_ascii_digit-clause-digits
returns-then-not-is_ascii_digit-clause-digits c = c.split_at.ensures.front ∙ (split_here c.args.bytes.now c.loop-i.i c.loop-i.invariant (λ _. sym c.if-not-is_ascii_digit.ensures.value)).0

pub returns-then-not-is_ascii_digit-clause-rest : goal.returns-then-not-is_ascii_digit-clause-rest
returns-then-not-is_ascii_digit-clause-rest c = c.split_at.ensures.back ∙ (split_here c.args.bytes.now c.loop-i.i c.loop-i.invariant (λ _. sym c.if-not-is_ascii_digit.ensures.value)).1

pub returns-then-not-is_ascii_digit-clause-all : goal.returns-then-not-is_ascii_digit-clause-all
returns-then-not-is_ascii_digit-clause-all c = ap all_ascii_digits c.split_at.ensures.front ∙ c.loop-i.invariant

pub loop-i-preserved : goal.loop-i-preserved
loop-i-preserved c = all_more c.args.bytes.now c.loop-i.i c.loop-i-test.true c.loop-i.invariant (sym c.if-not-is_ascii_digit.ensures.value)

pub returns-clause-digits : goal.returns-clause-digits
returns-clause-digits c = c.split_at-2.ensures.front ∙ (split_end c.args.bytes.now c.loop-i.i c.loop-i.invariant c.loop-i-test.false c.loop-i.auto.i-end).0

pub returns-clause-rest : goal.returns-clause-rest
returns-clause-rest c = c.split_at-2.ensures.back ∙ (split_end c.args.bytes.now c.loop-i.i c.loop-i.invariant c.loop-i-test.false c.loop-i.auto.i-end).1

pub returns-clause-all : goal.returns-clause-all
returns-clause-all c = ap all_ascii_digits c.split_at-2.ensures.front ∙ (split_end c.args.bytes.now c.loop-i.i c.loop-i.invariant c.loop-i-test.false c.loop-i.auto.i-end).2
