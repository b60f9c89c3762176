use Rattle.std.proofs.Common.{◌≡◌, ◌<◌, ◌++◌, ℕ, true, List, map, drop}
use Rattle.pf_base.specs.declared.plain.Row.{Row}
use Rattle.pf_model.specs.Built.{are_arguments}
use Rattle.pf_model.specs.Log.{AreApart}
use Rattle.pf_model.specs.Trees.{tree_of, trees_of}
use Rattle.pf_store.specs.Standing.{StandsFor}
use Rattle.pf_selectors.specs.Times.{time_at}
use Rattle.pf_eval.specs.Bound.{AreGiven, all_series_in, behind}
use Rattle.pf_eval.specs.Nodes.{all_meant, nodes_at, texts_in}
use Rattle.pf_eval.specs.Strings.{strings_in}
use Rattle.pf_eval.proofs.bound.+nodes.Given as goal

abbrev pub invariant-nodes_of-loop-arg : goal.invariant-nodes_of-loop-arg
invariant-nodes_of-loop-arg l = record {
  evaluated : are_arguments (trees_of (map tree_of (drop l.arg-index l.args))) ≡ true;
  given : AreGiven (trees_of (map tree_of (drop l.arg-index l.args))) l.snap.labels (map (λ v. v.items) l.rest) l.patterns l.times;
  rest :
      behind (all_series_in (trees_of (map tree_of (drop l.arg-index l.args))) l.snap.labels) (map (λ v. v.items) l.rest)
      ≡ behind (all_series_in (trees_of (map tree_of l.args)) l.snap.labels) (map (λ v. v.items) l.series);
  strings : texts_in l.nodes.items ++ strings_in (trees_of (map tree_of (drop l.arg-index l.args))) ≡ strings_in (trees_of (map tree_of l.args));
  nodes : (samples : List Row) → StandsFor l.snap samples → AreApart samples → (k : ℕ) → k < l.times.len
      → nodes_at l.nodes.items k ++ all_meant samples (trees_of (map tree_of (drop l.arg-index l.args))) (time_at l.times k)
      ≡ all_meant samples (trees_of (map tree_of l.args)) (time_at l.times k);
}
