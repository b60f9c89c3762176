use Rattle.std.proofs.Common.{◌≡◌, sym, subst, rules, arith}
use Rattle.std.proofs.lemmas.Grind.{common_steps}
use Rattle.pf_selectors.specs.Subqueries.{AreInOrder, bad_moments}
use Rattle.pf_selectors.proofs.MomentErrors.{in_order}
use Rattle.pf_selectors.proofs.moments.bad_moments.Goals as goal

pub returns-clause-order : goal.returns-clause-order
returns-clause-order c =
    let e : c.loop-i.found.items ≡ bad_moments c.args.at.now c.args.bads.now = first_of (search rules, grind (arith, common_steps)) in
    subst AreInOrder (sym e) (in_order c.args.at.now c.args.bads.now c.requires.rising)
