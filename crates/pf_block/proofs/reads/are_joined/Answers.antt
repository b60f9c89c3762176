use Rattle.std.proofs.Common.{◌-◌, map, drop, sym, ap, ◌∙◌, arith}
use Rattle.std.specs.Arc.{arc_value}
use Rattle.pf_block.specs.Samples.{rises}
use Rattle.pf_block.specs.Stacks.{joined_in}
use Rattle.pf_block.proofs.Reading.{front_rises, joined_here, joined_on, joined_up}
use Rattle.pf_block.proofs.Series.{block_rises}
use Rattle.pf_block.proofs.Walks.{block_is, down, in_map}
use Rattle.pf_block.proofs.reads.are_joined.Goals as goal

pub ends_before-requires-clause-ones : goal.ends_before-requires-clause-ones
ends_before-requires-clause-ones c =
    let n = c.loop-count.count - 1 in
    ap rises c.series-samples.ensures ∙ block_rises c.args.id (map arc_value c.args.blocks.now) n c.deref.result.now (in_map arc_value c.args.blocks.now n (omega arith)) (block_is arc_value c.args.blocks.now n c.index-blocks-count.result c.deref.result.now (omega arith) c.index-blocks-count.is c.deref.ensures) c.requires

pub ends_before-requires-clause-others : goal.ends_before-requires-clause-others
ends_before-requires-clause-others c = front_rises c.loop-count.behind.now (joined_in c.args.id (drop c.loop-count.count (map arc_value c.args.blocks.now))) c.loop-count.invariant.front c.loop-count.invariant.rises

pub loop-count-preserved-then-not-is_empty : goal.loop-count-preserved-then-not-is_empty
loop-count-preserved-then-not-is_empty c =
    let n = c.loop-count.count - 1 in
    let l = in_map arc_value c.args.blocks.now n (omega arith) in
    let b = block_is arc_value c.args.blocks.now n c.index-blocks-count.result c.deref.result.now (omega arith) c.index-blocks-count.is c.deref.ensures in
    let d = down c.loop-count.count (omega arith) in
    let k = c.ends_before.ensures c.if-not-ends_before.false in
    record {
      within = omega arith;
      front = joined_here c.args.id (map arc_value c.args.blocks.now) n c.loop-count.count c.deref.result.now l b d c.series-samples.result.now c.loop-count.behind.now c.series-samples.ensures c.loop-count.invariant.front c.loop-count.invariant.rises k
          (sym c.is_empty.ensures ∙ c.if-not-is_empty.true);
      rises = joined_up c.args.id (map arc_value c.args.blocks.now) n c.loop-count.count c.deref.result.now l b d c.series-samples.result.now c.loop-count.behind.now c.series-samples.ensures c.loop-count.invariant.front c.loop-count.invariant.rises k;
    }

pub loop-count-preserved : goal.loop-count-preserved
loop-count-preserved c =
    let n = c.loop-count.count - 1 in
    let l = in_map arc_value c.args.blocks.now n (omega arith) in
    let b = block_is arc_value c.args.blocks.now n c.index-blocks-count.result c.deref.result.now (omega arith) c.index-blocks-count.is c.deref.ensures in
    let d = down c.loop-count.count (omega arith) in
    let k = c.ends_before.ensures c.if-not-ends_before.false in
    record {
      within = omega arith;
      front = joined_on c.args.id (map arc_value c.args.blocks.now) n c.loop-count.count c.deref.result.now l b d c.series-samples.result.now c.loop-count.behind.now c.series-samples.ensures c.loop-count.invariant.front c.loop-count.invariant.rises k
          (sym c.is_empty.ensures ∙ c.if-not-is_empty.false);
      rises = joined_up c.args.id (map arc_value c.args.blocks.now) n c.loop-count.count c.deref.result.now l b d c.series-samples.result.now c.loop-count.behind.now c.series-samples.ensures c.loop-count.invariant.front c.loop-count.invariant.rises k;
    }
