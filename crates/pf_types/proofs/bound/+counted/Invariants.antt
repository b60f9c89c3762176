use Rattle.std.proofs.Common.{◌≡◌, ◌++◌, drop, map}
use Rattle.pf_model.specs.Trees.{tree_of, trees_of}
use Rattle.pf_types.specs.Counted.{all_counted}
use Rattle.pf_types.proofs.bound.+counted.Given as goal

abbrev pub invariant-push_all-loop-arg : goal.invariant-push_all-loop-arg
invariant-push_all-loop-arg l =
    map (λ e. tree_of e.now) l.found.items ++ all_counted (trees_of (map tree_of (drop l.arg-index l.args)))
    ≡ map (λ e. tree_of e.now) l.initial.found.items ++ all_counted (trees_of (map tree_of l.args))
