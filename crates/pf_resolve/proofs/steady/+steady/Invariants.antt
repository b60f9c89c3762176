use Rattle.std.proofs.Common.{◌≡◌, map, drop}
use Rattle.pf_model.specs.Trees.{tree_of, trees_of}
use Rattle.pf_resolve.specs.Steady.{are_steady}
use Rattle.pf_resolve.proofs.steady.+steady.Given as goal

abbrev pub invariant-are_all_steady-loop-arg : goal.invariant-are_all_steady-loop-arg
invariant-are_all_steady-loop-arg l =
    are_steady (trees_of (map tree_of (drop l.arg-index l.args))) ≡ are_steady (trees_of (map tree_of l.args))
