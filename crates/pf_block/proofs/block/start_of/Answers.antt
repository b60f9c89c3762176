use Rattle.std.proofs.Common.{arith}
use Rattle.pf_block.proofs.Runs.{end_at, end_past, end_within}
use Rattle.pf_block.proofs.block.start_of.Goals as goal

pub returns-then-run-runs-clause-value : goal.returns-then-run-runs-clause-value
returns-then-run-runs-clause-value c = end_past c.args.runs.now c.args.rows c.args.run (omega arith)

pub returns-clause-within : goal.returns-clause-within
returns-clause-within c =
    let e = end_at c.args.runs.now c.args.rows c.args.run (0, 0) c.if-run-runs.false in
    let l = end_within c.args.runs.now c.args.rows c.args.run c.requires in
    omega (arith, e, l)

pub returns-clause-value : goal.returns-clause-value
returns-clause-value c = end_at c.args.runs.now c.args.rows c.args.run (0, 0) c.if-run-runs.false
