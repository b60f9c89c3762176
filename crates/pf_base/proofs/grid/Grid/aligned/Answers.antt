use Rattle.std.proofs.Common.{arith}
use Rattle.pf_base.proofs.GridTimes.{aligned_multiples}
use Rattle.pf_base.proofs.grid.Grid.aligned.Goals as goal

pub returns-clause-times : goal.returns-clause-times
returns-clause-times c = grind (arith, aligned_multiples)
