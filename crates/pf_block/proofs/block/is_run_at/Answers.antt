use Rattle.std.proofs.Common.{arith}
use Rattle.pf_block.proofs.Runs.{run_has}
use Rattle.pf_block.proofs.block.is_run_at.Goals as goal

pub returns : goal.returns
returns c = λ e. (c.if-run-runs.false, run_has c.args.place c.args.runs.now c.args.rows c.args.run (0, 0) c.start_of.result c.requires c.if-run-runs.false (omega (arith, c.if-place-runs.false)) c.start_of.ensures.value e)
