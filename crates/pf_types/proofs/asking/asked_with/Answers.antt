use Rattle.std.proofs.Common.{ap}
use Rattle.std.proofs.Common.{arith}
use Rattle.std.proofs.lemmas.Grind.{common_steps}
use Rattle.pf_model.specs.Trees.{tree_of}
use Rattle.pf_types.proofs.OverGrids.{is_shared_asked}
use Rattle.pf_types.proofs.asking.asked_with.Goals as goal

pub invariant_of-result : goal.invariant_of-result
invariant_of-result c =
    is_shared_asked _ _ _ _ _ _ _ _ _ (ap tree_of c.in_ok-expr.ensures.ok) c.requires.lawful c.requires.when c.grid_in-grid.ensures c.is_instant-instant.ensures c.in_ok-text.ensures.canonical

pub returns : goal.returns
returns c = grind (arith, common_steps)
