use Rattle.std.proofs.Common.{◌≡◌, ◌+◌, ◌-◌, ◌/◌, true, false, ap, sym, ◌∙◌, arith}
use Rattle.pf_model.specs.Trees.{tree_of}
use Rattle.pf_results.proofs.Edges.{fixed_before, open_behind}
use Rattle.pf_results.specs.Keeping.{is_fixed}
use Rattle.pf_results.specs.Runs.{time_of}
use Rattle.pf_results.proofs.fixed.first_open.Goals as goal

pub loop-low-preserved-then-is_fixed : goal.loop-low-preserved-then-is_fixed
loop-low-preserved-then-is_fixed c =
    let query = tree_of c.args.expr.now in
    let asker = c.args.asker.now in
    let middle = c.loop-low.low + (c.loop-low.high - c.loop-low.low) / 2 in
    let test = c.loop-low-test.true in
    let here : is_fixed query asker (time_of c.args.run middle) ≡ true =
    ap (is_fixed query asker) (sym c.at.ensures.value) ∙ sym c.is_fixed.ensures ∙ c.if-is_fixed.true in
    record {
      order = omega (arith, test);
      within = c.loop-low.invariant.within;
      fixed = λ k h. fixed_before query asker c.requires.rises c.args.run middle k here (omega (arith, h));
      behind = c.loop-low.invariant.behind;
    }

pub loop-low-preserved : goal.loop-low-preserved
loop-low-preserved c =
    let query = tree_of c.args.expr.now in
    let asker = c.args.asker.now in
    let middle = c.loop-low.low + (c.loop-low.high - c.loop-low.low) / 2 in
    let test = c.loop-low-test.true in
    let within = c.loop-low.invariant.within in
    let here : is_fixed query asker (time_of c.args.run middle) ≡ false =
    ap (is_fixed query asker) (sym c.at.ensures.value) ∙ sym c.is_fixed.ensures ∙ c.if-is_fixed.false in
    record {
      order = omega arith;
      within = omega (arith, test, within);
      fixed = c.loop-low.invariant.fixed;
      behind = λ k h n. open_behind query asker c.requires.rises c.args.run middle k here h;
    }
