use Rattle.std.proofs.Common.{◌∙◌, sym}
use Rattle.pf_base.proofs.Letters.{split_here, split_end, all_more}
use Rattle.pf_base.proofs.duration.split_letters.Goals as goal

pub returns-then-is_ascii_digit-clause-letters : goal.returns-then-is_ascii_digit-clause-letters
returns-then-is_ascii_digit-clause-letters c = c.split_at.ensures.front ∙ (split_here c.args.bytes.now c.loop-i.i c.loop-i.invariant (λ _. sym c.if-is_ascii_digit.ensures.value)).0

pub returns-then-is_ascii_digit-clause-rest : goal.returns-then-is_ascii_digit-clause-rest
returns-then-is_ascii_digit-clause-rest c = c.split_at.ensures.back ∙ (split_here c.args.bytes.now c.loop-i.i c.loop-i.invariant (λ _. sym c.if-is_ascii_digit.ensures.value)).1

pub loop-i-preserved : goal.loop-i-preserved
loop-i-preserved c = all_more c.args.bytes.now c.loop-i.i c.loop-i-test.true c.loop-i.invariant (sym c.if-is_ascii_digit.ensures.value)

pub returns-clause-letters : goal.returns-clause-letters
returns-clause-letters c = c.split_at-2.ensures.front ∙ (split_end c.args.bytes.now c.loop-i.i c.loop-i.invariant c.loop-i-test.false c.loop-i.auto.i-end).0

pub returns-clause-rest : goal.returns-clause-rest
returns-clause-rest c = c.split_at-2.ensures.back ∙ (split_end c.args.bytes.now c.loop-i.i c.loop-i.invariant c.loop-i-test.false c.loop-i.auto.i-end).1
