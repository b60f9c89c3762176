use Rattle.std.proofs.Common.{◌≡◌, ◌<◌, ◌++◌, ℕ, List, map, drop}
use Rattle.pf_base.specs.declared.plain.Row.{Row}
use Rattle.pf_model.specs.Trees.{tree_of, trees_of}
use Rattle.pf_selectors.specs.Times.{time_at}
use Rattle.pf_eval.specs.Merged.{AreMerged, AreOfShards, all_sharded_in, behind_shards}
use Rattle.pf_eval.specs.Nodes.{all_meant, nodes_at, texts_in}
use Rattle.pf_eval.specs.Strings.{strings_in}
use Rattle.pf_eval.proofs.merged.+merged.Given as goal

abbrev pub invariant-merged_nodes-loop-arg : goal.invariant-merged_nodes-loop-arg
invariant-merged_nodes-loop-arg l = record {
  merged : AreMerged (trees_of (map tree_of (drop l.arg-index l.args))) l.shards l.parts.items l.patterns;
  left :
      behind_shards l.shards (all_sharded_in (trees_of (map tree_of (drop l.arg-index l.args)))) l.parts.items
      ≡ behind_shards l.shards (all_sharded_in (trees_of (map tree_of l.args))) l.initial.parts.items;
  strings : texts_in l.nodes.items ++ strings_in (trees_of (map tree_of (drop l.arg-index l.args))) ≡ strings_in (trees_of (map tree_of l.args));
  of : (samples : List Row) → AreOfShards samples l.shards l.times (all_sharded_in (trees_of (map tree_of l.args))) l.initial.parts.items
      → AreOfShards samples l.shards l.times (all_sharded_in (trees_of (map tree_of (drop l.arg-index l.args)))) l.parts.items;
  nodes : (samples : List Row) → AreOfShards samples l.shards l.times (all_sharded_in (trees_of (map tree_of l.args))) l.initial.parts.items
      → (k : ℕ) → k < l.times.len
      → nodes_at l.nodes.items k ++ all_meant samples (trees_of (map tree_of (drop l.arg-index l.args))) (time_at l.times k)
      ≡ all_meant samples (trees_of (map tree_of l.args)) (time_at l.times k);
}
