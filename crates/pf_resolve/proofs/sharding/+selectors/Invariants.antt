use Rattle.std.proofs.Common.{◌≡◌, map, drop}
use Rattle.pf_model.specs.Trees.{tree_of, trees_of}
use Rattle.pf_resolve.specs.Forms.{any_has_selector}
use Rattle.pf_resolve.proofs.sharding.+selectors.Given as goal

abbrev pub invariant-any_has_selector-loop-arg : goal.invariant-any_has_selector-loop-arg
invariant-any_has_selector-loop-arg l =
    any_has_selector (trees_of (map tree_of (drop l.arg-index l.args))) ≡ any_has_selector (trees_of (map tree_of l.args))
