use Rattle.std.proofs.Common.{arith}
use Rattle.pf_base.proofs.GridTimes.{slice_get-times_from, time_within}
use Rattle.pf_base.proofs.grid.Grid.at.Goals as goal

pub returns-clause-point : goal.returns-clause-point
returns-clause-point c = grind (arith, slice_get-times_from)

pub returns-clause-within : goal.returns-clause-within
returns-clause-within c = grind (arith, time_within)
