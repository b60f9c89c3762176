use Rattle.std.proofs.Common.{◌≡◌, map, drop}
use Rattle.pf_model.specs.Sharding.{are_literals}
use Rattle.pf_model.specs.Trees.{tree_of, trees_of}
use Rattle.pf_resolve.proofs.sharding.are_literals.Given as goal

abbrev pub invariant-loop-arg : goal.invariant-loop-arg
invariant-loop-arg l = are_literals (trees_of (map tree_of (drop l.arg-index l.args))) ≡ are_literals (trees_of (map tree_of l.args))
