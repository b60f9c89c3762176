use Rattle.std.proofs.Common.{arith}
use Rattle.std.specs.Arc.{arc_value}
use Rattle.pf_block.proofs.Walks.{push_map}
use Rattle.pf_block.proofs.stack.on_first.Goals as goal

pub loop-block-preserved : goal.loop-block-preserved
loop-block-preserved c =
    push_map arc_value c.args.blocks.now c.loop-block.stack.items c.push.new.self.items c.loop-block.block-index c.in_ok-try_clone.field-0 c.block-item.result
    c.in_ok-push.ensures.items c.loop-block.invariant c.in_ok-try_clone.ensures c.block-item.is (omega arith)
