use Rattle.std.proofs.Common.{◌∙◌, sym, arith}
use Rattle.pf_shard.proofs.MergedGroups.{equal_step, first_left, greater_step, less_step, second_left}
use Rattle.pf_shard.proofs.partials.merged.Goals as goal
use Rattle.pf_shard.proofs.partials.merged.Goals.{then-loop-i-test+else-j-second, else-loop-i-test}

pub loop-i-preserved-in-Less : goal.loop-i-preserved-in-Less
loop-i-preserved-in-Less c =
    record {
      within = omega (arith, c.loop-i-test.true);
      inside = c.loop-i.invariant.inside;
      left =
          less_step _ _ c.args.first.now c.args.second.now c.loop-i.i c.loop-i.j c.index-first-i.result c.index-second-j.result _ c.loop-i-test.true c.if-j-second.true c.index-first-i.is c.index-second-j.is
          c.loop-i.invariant.left (sym c.cmp.ensures ∙ c.in-Less.is) c.in_ok-push_group-in-Less.ensures;
    }

pub loop-i-preserved-in-Equal : goal.loop-i-preserved-in-Equal
loop-i-preserved-in-Equal c =
    record {
      within = omega (arith, c.loop-i-test.true);
      inside = omega (arith, c.if-j-second.true);
      left =
          equal_step _ _ c.args.first.now c.args.second.now c.loop-i.i c.loop-i.j c.index-first-i.result c.index-second-j.result _ c.loop-i-test.true c.if-j-second.true c.index-first-i.is c.index-second-j.is
          c.loop-i.invariant.left (sym c.cmp.ensures ∙ c.in-Equal.is) c.together-partial.result c.together-partial.ensures c.in_ok-push_group-in-Equal.ensures;
    }

pub loop-i-preserved : goal.loop-i-preserved
loop-i-preserved c =
    record {
      within = c.loop-i.invariant.within;
      inside = omega (arith, c.if-j-second.true);
      left =
          greater_step _ _ c.args.first.now c.args.second.now c.loop-i.i c.loop-i.j c.index-first-i.result c.index-second-j.result _ c.loop-i-test.true c.if-j-second.true c.index-first-i.is c.index-second-j.is
          c.loop-i.invariant.left (sym c.cmp.ensures ∙ c.in-Greater.is) c.in_ok-push_group-in-Greater.ensures;
    }

pub returns : goal.returns
returns c =
    let xs = c.args.first.now in
    let ys = c.args.second.now in
    elim c.loop-i-test.branch [
      | then-loop-i-test+else-j-second w ↦
          first_left _ _ _ xs ys c.loop-i.i c.loop-i.j _ c.loop-i.invariant.left w.if-j-second.false c.in_ok-push_all.ensures c.in_ok-push_all-2.ensures
      | else-loop-i-test w ↦
          second_left _ _ _ xs ys c.loop-i.i c.loop-i.j _ c.loop-i.invariant.left w.loop-i-test.false c.in_ok-push_all.ensures c.in_ok-push_all-2.ensures
    ]
