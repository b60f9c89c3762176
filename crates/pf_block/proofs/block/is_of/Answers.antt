use Rattle.std.proofs.Common.{get_or, arith}
use Rattle.pf_block.proofs.Runs.{below_at, is_id}
use Rattle.pf_block.proofs.block.is_of.Goals as goal

pub returns-clause-value : goal.returns-clause-value
returns-clause-value c e =
    let outside = c.if-run-runs.false in
    below_at c.args.id c.args.runs.now c.args.run (0, 0) c.requires (omega (arith, outside)) (is_id (get_or c.args.runs.now c.args.run (0, 0)).0 c.args.id e)
