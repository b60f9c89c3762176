use Rattle.std.proofs.Common.{◌∙◌, arith}
use Rattle.pf_script.proofs.Digits.{grown_at}
use Rattle.pf_top.proofs.Seeds.{too_great}
use Rattle.pf_top.proofs.words.seed_of.Goals as goal

pub returns-in_err-checked_mul : goal.returns-in_err-checked_mul
returns-in_err-checked_mul c =
    let g = grown_at c.loop-digit.number c.loop-digit.digit-index c.args.digits.now c.loop-digit-test.true c.loop-digit.invariant.number in
    c.from_residual.ensures ∙ too_great c.args.digits.now (omega (arith, c.in_err-checked_mul.ensures))

pub returns-in_err-number : goal.returns-in_err-number
returns-in_err-number c =
    let g = grown_at c.loop-digit.number c.loop-digit.digit-index c.args.digits.now c.loop-digit-test.true c.loop-digit.invariant.number in
    c.from_residual-in_err-number.ensures ∙ too_great c.args.digits.now (omega (arith, c.in_err-number.ensures, c.in_ok-checked_mul.ensures))
