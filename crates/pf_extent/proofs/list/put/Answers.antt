use Rattle.std.proofs.Common.{arith}
use Rattle.std.proofs.lemmas.Grind.{common_steps}
use Rattle.pf_extent.proofs.KnownSteps.{divides}
use Rattle.pf_extent.proofs.list.put.Goals as goal

pub fronts-requires : goal.fronts-requires
fronts-requires c =
    divides c.args.extent.first c.args.extent.step c.args.extents.now c.requires.lawful.first c.requires.apart c.requires.step

pub with_backs-requires : goal.with_backs-requires
with_backs-requires c =
    divides c.args.extent.last c.args.extent.step c.args.extents.now c.requires.lawful.last c.requires.apart c.requires.step

pub returns : goal.returns
returns c = grind (arith, common_steps)
