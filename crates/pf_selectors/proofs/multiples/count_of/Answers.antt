use Rattle.std.proofs.Common.{◌≡◌, ◌-ℤ◌, ◌+ℤ◌, pos, unsigned_abs, ap, ◌∙◌, rules, arith}
use Rattle.std.proofs.lemmas.Grind.{common_steps}
use Rattle.pf_model.specs.Micros.{cut_down}
use Rattle.pf_selectors.proofs.StepMultiples.{counted}
use Rattle.pf_selectors.proofs.multiples.count_of.Goals as goal

pub returns-clause-all : goal.returns-clause-all
returns-clause-all c =
    let e : c.abs_diff.result ≡ unsigned_abs (cut_down c.args.to c.args.step -ℤ cut_down c.args.from c.args.step) = first_of (search rules, grind (arith, common_steps)) in
    ap (λ n. cut_down c.args.from c.args.step +ℤ pos n) e ∙ counted c.args.step c.args.from c.args.to c.requires.order
