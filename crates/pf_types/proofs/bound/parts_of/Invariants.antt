use Rattle.std.proofs.Common.{◌≡◌, ℕ, List, drop, false, true, map, take}
use Rattle.std.specs.List.{list_any}
use Rattle.pf_match.specs.Tables.{Agrees, Stays}
use Rattle.pf_model.specs.Binding.{matchers_in, patterns_in}
use Rattle.pf_model.specs.Queries.{are_meant, bind_fault_from, is_empty_selector}
use Rattle.pf_model.specs.Trees.{tree_of}
use Rattle.pf_types.proofs.bound.parts_of.Given as goal

abbrev pub invariant-loop-i : goal.invariant-loop-i
invariant-loop-i l = record {
  selectors : l.selectors.items ≡ matchers_in (map (λ e. tree_of e.now) (take l.i l.nodes));
  patterns : l.patterns.items ≡ patterns_in (map (λ e. tree_of e.now) (take l.i l.nodes));
  meant : are_meant (map (λ e. tree_of e.now) (take l.i l.nodes)) ≡ true;
  select : list_any is_empty_selector (map (λ e. tree_of e.now) (take l.i l.nodes)) ≡ false;
  fate : (refused : List (List ℕ)) → Agrees l.known refused
      → bind_fault_from refused l.i (map (λ e. tree_of e.now) (drop l.i l.nodes)) ≡ bind_fault_from refused 0 (map (λ e. tree_of e.now) l.nodes);
  still : Stays l.initial.known l.known;
}
