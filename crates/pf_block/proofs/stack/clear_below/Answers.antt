use Rattle.std.proofs.Common.{◌≡◌, ◌-◌, map, sym, refl, subst, arith, rules, to_z, of_z, w64}
use Rattle.std.proofs.lemmas.Int.{to_z-of_z}
use Rattle.std.specs.Arc.{arc_value}
use Rattle.pf_block.proofs.Reading.{not_later}
use Rattle.pf_block.proofs.Series.{block_rises}
use Rattle.pf_block.proofs.Walks.{AreBefore, block_is, clear_here, clear_none, clear_upto, down, in_map}
use Rattle.pf_block.proofs.stack.clear_below.Goals as goal

pub returns-then-count-ordered-clause-clear : goal.returns-then-count-ordered-clause-clear
returns-then-count-ordered-clause-clear c =
    let n = c.loop-count.count - 1 in
    let bs = map arc_value c.args.blocks.now in
    subst (λ t. AreBefore c.args.id t bs c.loop-count.clear) (to_z-of_z w64 c.args.time c.ranges.time)
    (c.loop-count.invariant.passed
    (subst (λ m. AreBefore c.args.id (to_z w64 (of_z w64 c.args.time)) bs m) (sym (down c.loop-count.count (omega arith)))
    (clear_here c.args.id _ bs n c.deref.result.now (in_map arc_value c.args.blocks.now n (omega arith)) (block_is arc_value c.args.blocks.now n c.index-blocks-count.result c.deref.result.now (omega arith) c.index-blocks-count.is c.deref.ensures) c.series.result.now c.series.ensures c.in-Some.sample.now c.args.ordered c.if-count-ordered.true c.requires.front c.in-Some.ensures.value
    (not_later _ _ _ _ refl (to_z-of_z w64 c.in-Some.sample.now.time (search rules)) c.if-sample-time.false))))

pub loop-count-preserved-in_default : goal.loop-count-preserved-in_default
loop-count-preserved-in_default c =
    let n = c.loop-count.count - 1 in
    let bs = map arc_value c.args.blocks.now in
    record {
      within = omega arith;
      inside = c.loop-count.invariant.inside;
      passed = λ a.
          c.loop-count.invariant.passed
          (subst (λ m. AreBefore c.args.id (to_z w64 (of_z w64 c.args.time)) bs m) (sym (down c.loop-count.count (omega arith)))
          (clear_none c.args.id _ bs n c.deref.result.now (in_map arc_value c.args.blocks.now n (omega arith)) (block_is arc_value c.args.blocks.now n c.index-blocks-count.result c.deref.result.now (omega arith) c.index-blocks-count.is c.deref.ensures) c.series.result.now c.series.ensures c.in_default.ensures.value a));
    }

pub loop-count-preserved-then-sample-time : goal.loop-count-preserved-then-sample-time
loop-count-preserved-then-sample-time c = record {
  within = omega arith;
  inside = omega arith;
  passed = λ a. a;
}

pub loop-count-preserved : goal.loop-count-preserved
loop-count-preserved c =
    let n = c.loop-count.count - 1 in
    let bs = map arc_value c.args.blocks.now in
    let l = in_map arc_value c.args.blocks.now n (omega arith) in
    let b = block_is arc_value c.args.blocks.now n c.index-blocks-count.result c.deref.result.now (omega arith) c.index-blocks-count.is c.deref.ensures in
    record {
      within = omega arith;
      inside = c.loop-count.invariant.inside;
      passed = λ a.
          c.loop-count.invariant.passed
          (subst (λ m. AreBefore c.args.id (to_z w64 (of_z w64 c.args.time)) bs m) (sym (down c.loop-count.count (omega arith)))
          (clear_upto c.args.id _ bs n c.deref.result.now l b c.series.result.now c.series.ensures c.in-Some.sample.now (block_rises c.args.id bs n c.deref.result.now l b c.requires.rises) c.in-Some.ensures.value
          (not_later _ _ _ _ refl (to_z-of_z w64 c.in-Some.sample.now.time (search rules)) c.if-sample-time.false) a));
    }

pub returns-clause-clear : goal.returns-clause-clear
returns-clause-clear c =
    let e : 0 ≡ c.loop-count.count = omega arith in
    subst (λ t. AreBefore c.args.id t (map arc_value c.args.blocks.now) c.loop-count.clear) (to_z-of_z w64 c.args.time c.ranges.time)
    (c.loop-count.invariant.passed (subst (λ m. AreBefore c.args.id (to_z w64 (of_z w64 c.args.time)) (map arc_value c.args.blocks.now) m) e refl))
