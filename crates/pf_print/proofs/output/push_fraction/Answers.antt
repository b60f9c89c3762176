use Rattle.std.proofs.Common.{sym, arith, codes, ◌/◌, ◌%◌, ◌++◌, ◌*◌}
use Rattle.std.specs.Fmt.{decimal}
use Rattle.pf_base.specs.NumberTexts.{fraction_text}
use Rattle.pf_print.proofs.Fractions.{one_digit, two_digits, three_digits}
use Rattle.pf_print.proofs.Pushes.{pushed, pushed_as, on_ok}
use Rattle.pf_print.proofs.output.push_fraction.Goals as goal

pub returns-then-millis-eq0-2 : goal.returns-then-millis-eq0-2
returns-then-millis-eq0-2 c =
    let m = c.args.millis in
    let o = c.args.out.now in
    pushed_as o _ (codes "." ++ decimal (m / 100)) (fraction_text (m * 1000))
    (pushed o c.push.new.self _ (codes ".") (decimal (m / 100)) c.in_ok-push.ensures c.in_ok-push_decimal.ensures)
    (sym (one_digit m c.requires (omega (arith, c.if-millis-eq0.false)) c.if-millis-eq0-2.true))

pub returns-then-millis-eq0-3 : goal.returns-then-millis-eq0-3
returns-then-millis-eq0-3 c =
    let m = c.args.millis in
    let o = c.args.out.now in
    pushed_as o _ (codes "." ++ (decimal (m / 100) ++ decimal (m / 10 % 10))) (fraction_text (m * 1000))
    (pushed o c.push.new.self _ (codes ".") (decimal (m / 100) ++ decimal (m / 10 % 10)) c.in_ok-push.ensures
    (pushed c.push.new.self c.push_decimal.new.out _ (decimal (m / 100)) (decimal (m / 10 % 10)) c.in_ok-push_decimal.ensures
    c.in_ok-push_decimal-2.ensures))
    (sym (two_digits m c.requires (omega (arith, c.if-millis-eq0-2.false)) c.if-millis-eq0-3.true))

pub returns : goal.returns
returns c =
    let m = c.args.millis in
    let o = c.args.out.now in
    on_ok c.push_decimal-3.result
    (λ h. pushed_as o _ (codes "." ++ (decimal (m / 100) ++ (decimal (m / 10 % 10) ++ decimal (m % 10)))) (fraction_text (m * 1000))
    (pushed o c.push.new.self _ (codes ".") (decimal (m / 100) ++ (decimal (m / 10 % 10) ++ decimal (m % 10))) c.in_ok-push.ensures
    (pushed c.push.new.self c.push_decimal.new.out _ (decimal (m / 100)) (decimal (m / 10 % 10) ++ decimal (m % 10))
    c.in_ok-push_decimal.ensures
    (pushed c.push_decimal.new.out c.push_decimal-2.new.out _ (decimal (m / 10 % 10)) (decimal (m % 10))
    c.in_ok-push_decimal-2.ensures h)))
    (sym (three_digits m c.requires (omega (arith, c.if-millis-eq0-3.false)))))
    c.push_decimal-3.ensures
