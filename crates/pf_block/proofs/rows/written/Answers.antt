use Rattle.std.proofs.Common.{arith}
use Rattle.pf_block.specs.Blocks.{entries_with}
use Rattle.pf_block.proofs.Handing.{with_next}
use Rattle.pf_block.proofs.Pairing.{fits}
use Rattle.pf_block.proofs.rows.written.Goals as goal

pub with-requires : goal.with-requires
with-requires c =
    fits c.loop-i.block (entries_with c.args.ids.now c.args.rows.now) _ _ _
    (with_next c.args.rows.now c.args.ids.now c.loop-i.i 0 c.index-rows-i.result c.sample.result (omega arith) c.requires.alike c.index-rows-i.is c.sample.ensures)
    c.loop-i.invariant c.requires.ascends
