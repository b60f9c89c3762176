use Rattle.std.proofs.Common.{arith}
use Rattle.pf_block.proofs.Runs.{upto_apart, upto_past, upto_same}
use Rattle.pf_block.proofs.block.count_upto.Goals as goal

pub returns-then-below-runs : goal.returns-then-below-runs
returns-then-below-runs c = upto_past c.args.id c.args.runs.now c.args.below c.requires.below (omega arith)

pub returns-then-run-id : goal.returns-then-run-id
returns-then-run-id c =
    let e = upto_same c.args.id c.args.runs.now c.args.below (0, 0) c.requires.apart c.if-below-runs.false c.requires.below c.if-run-id.true in
    omega (arith, e)

pub returns : goal.returns
returns c = upto_apart c.args.id c.args.runs.now c.args.below (0, 0) c.requires.below c.if-run-id.false
