use Rattle.std.proofs.Common.{◌≡◌, ◌<◌, ◌++◌, ◌∷◌, ℕ, ℤ, true, [], List, map, drop}
use Rattle.pf_base.specs.declared.plain.Row.{Row}
use Rattle.pf_model.specs.Sharding.{are_literals}
use Rattle.pf_model.specs.Trees.{tree_of, trees_of}
use Rattle.pf_eval.specs.Nodes.{all_meant, node_at, nodes_at, texts_in}
use Rattle.pf_eval.proofs.plain.with_literals.Given as goal

abbrev pub invariant-loop-arg : goal.invariant-loop-arg
invariant-loop-arg l = record {
  literals : are_literals (trees_of (map tree_of (drop l.arg-index l.args))) ≡ true;
  texts : texts_in l.nodes.items ≡ [];
  nodes : (samples : List Row) (t : ℤ) (k : ℕ) → k < l.len
      → nodes_at l.nodes.items k ++ all_meant samples (trees_of (map tree_of (drop l.arg-index l.args))) t
      ≡ node_at l.fn.first k ∷ all_meant samples (trees_of (map tree_of l.args)) t;
}
