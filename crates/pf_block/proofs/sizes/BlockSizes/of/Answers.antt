use Rattle.std.proofs.Common.{arith}
use Rattle.pf_block.proofs.Totals.{few}
use Rattle.pf_block.proofs.sizes.BlockSizes.of.Goals as goal

pub returns-clause-few : goal.returns-clause-few
returns-clause-few c = few c.args.sizes.now (omega (arith, c.oldest-most.ensures, c.oldest-most.type_inv)) c.requires.filled c.requires.doubles
