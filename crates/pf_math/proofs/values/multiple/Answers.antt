use Rattle.std.proofs.Common.{arith}
use Rattle.std.proofs.lemmas.Grind.{common_steps}
use Rattle.pf_math.proofs.Euclid.{multiple_fits}
use Rattle.pf_math.proofs.values.multiple.Goals as goal

pub overflow_mul-result : goal.overflow_mul-result
overflow_mul-result c =
    multiple_fits c.args.count c.args.of c.ranges.count c.ranges.of c.requires.bound c.requires.low c.requires.high

pub returns : goal.returns
returns c = grind (arith, common_steps)
