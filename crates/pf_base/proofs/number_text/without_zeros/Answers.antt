use Rattle.std.proofs.Common.{take, ap, ◌∙◌, sym, arith}
use Rattle.pf_base.proofs.EndZeros.{digit_passed, none_left, zero_passed}
use Rattle.pf_base.proofs.number_text.without_zeros.Goals as goal
use Rattle.pf_base.proofs.number_text.without_zeros.Goals.{then-digits-i-ne48, else-digits-i-ne48}

pub loop-i-init : goal.loop-i-init
loop-i-init c = record { within = omega arith; same = none_left }

pub loop-i-preserved : goal.loop-i-preserved
loop-i-preserved c =
    let digits = c.args.digits.now in
    elim c.if-digits-i-ne48.branch [
      | then-digits-i-ne48 w ↦ record {
        within = omega (arith, w.end-is);
        same = ap (λ n. take n digits) w.end-is ∙ sym (digit_passed digits c.loop-i.i c.loop-i-test.true w.if-digits-i-ne48.true);
      }
      | else-digits-i-ne48 w ↦ record {
        within = omega (arith, w.end-is, c.loop-i.invariant.within);
        same = ap (λ n. take n digits) w.end-is ∙ c.loop-i.invariant.same ∙ sym (zero_passed digits c.loop-i.i c.loop-i-test.true w.if-digits-i-ne48.false);
      }
    ]
