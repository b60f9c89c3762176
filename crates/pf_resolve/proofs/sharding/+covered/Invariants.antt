use Rattle.std.proofs.Common.{◌≡◌, map, drop}
use Rattle.pf_model.specs.Sharding.{are_covered}
use Rattle.pf_model.specs.Trees.{tree_of, trees_of}
use Rattle.pf_resolve.proofs.sharding.+covered.Given as goal

abbrev pub invariant-are_covered-loop-arg : goal.invariant-are_covered-loop-arg
invariant-are_covered-loop-arg l =
    are_covered (trees_of (map tree_of (drop l.arg-index l.args))) ≡ are_covered (trees_of (map tree_of l.args))
