use Rattle.std.proofs.Common.{arith}
use Rattle.pf_block.proofs.Runs.{some_begun}
use Rattle.pf_block.proofs.block.run_at.Goals as goal

pub returns-clause-value : goal.returns-clause-value
returns-clause-value c = let l = some_begun c.args.place c.args.runs.now c.args.rows c.requires.runs c.requires.inside in let e = c.count_begun.ensures.value in omega (arith, l, e)
