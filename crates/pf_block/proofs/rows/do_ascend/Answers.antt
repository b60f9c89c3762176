use Rattle.std.proofs.Common.{◌∙◌, sym, arith}
use Rattle.pf_block.proofs.Handing.{few_ascend}
use Rattle.pf_block.proofs.rows.do_ascend.Goals as goal

pub returns : goal.returns
returns c = sym (few_ascend c.args.rows.now c.args.ids.now c.loop-i.i (omega arith) (omega arith)) ∙ c.loop-i.invariant
