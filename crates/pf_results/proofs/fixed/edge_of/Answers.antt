use Rattle.std.proofs.Common.{◌≡◌, ◌-◌, ◌<◌, ℕ, true, nat_lt, ap, sym, ◌∙◌, rules, arith}
use Rattle.std.proofs.lemmas.Bool.Decides.{nat_tests}
use Rattle.pf_model.specs.Trees.{tree_of}
use Rattle.pf_resolve.specs.Steady.{ReachRises}
use Rattle.pf_results.proofs.Edges.{fixed_before}
use Rattle.pf_results.specs.Keeping.{is_fixed}
use Rattle.pf_results.specs.Runs.{time_of}
use Rattle.pf_results.proofs.fixed.edge_of.Goals as goal

is_less : (k n : ℕ) → k < n → true ≡ nat_lt k n
is_less k n h = grind (arith, nat_tests)

pub returns-then-is_fixed : goal.returns-then-is_fixed
returns-then-is_fixed c =
    let query = tree_of c.args.expr.now in
    let asker = c.args.asker.now in
    let rises : ReachRises query = search rules in
    let n = c.len.ensures.value in
    let m = c.len-then-is_fixed.ensures.value in
    let here : is_fixed query asker (time_of c.args.run (c.len.result - 1)) ≡ true =
    ap (is_fixed query asker) (sym c.at.ensures.value) ∙ sym c.is_fixed.ensures ∙ c.if-is_fixed.true in
    λ k h. fixed_before query asker rises c.args.run (c.len.result - 1) k here (omega (arith, n, h)) ∙ is_less k c.len-then-is_fixed.result (omega (arith, m, h))
