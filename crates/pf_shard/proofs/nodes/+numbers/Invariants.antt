use Rattle.std.proofs.Common.{◌≡◌, ◌+◌, ◌++◌, drop, map}
use Rattle.pf_model.specs.Trees.{sizes, tree_of, trees_of}
use Rattle.pf_shard.specs.Numbers.{all_numbers_in}
use Rattle.pf_shard.proofs.nodes.+numbers.Given as goal

abbrev pub invariant-push_all_numbers-loop-arg : goal.invariant-push_all_numbers-loop-arg
invariant-push_all_numbers-loop-arg l = record {
  next : l.next + sizes (trees_of (map tree_of (drop l.arg-index l.args))) ≡ l.first + sizes (trees_of (map tree_of l.args));
  numbers : l.found.items ++ all_numbers_in l.next (trees_of (map tree_of (drop l.arg-index l.args))) ≡ l.initial.found.items ++ all_numbers_in l.first (trees_of (map tree_of l.args));
}
