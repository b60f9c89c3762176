use Rattle.std.proofs.Common.{◌≡◌, ◌+◌, ◌*◌, ◌≤◌, ◌-ℤ◌, pos, true, map, drop, unsigned_abs}
use Rattle.pf_model.specs.Evaluation.{multiples_behind}
use Rattle.pf_model.specs.Micros.{cut_down}
use Rattle.pf_model.specs.Reach.{all_times_read, all_together, times_read}
use Rattle.pf_model.specs.Trees.{heights, tree_of, trees_of}
use Rattle.pf_resolve.specs.Bounds.{are_small}
use Rattle.pf_resolve.specs.Ends.{end_of, end_over_all, farther_of}
use Rattle.pf_resolve.proofs.reading.+times.Given as goal

abbrev pub invariant-end_at_multiples-loop-k : goal.invariant-end_at_multiples-loop-k
invariant-end_at_multiples-loop-k l =
    l.found ≡ end_of l.end (all_together (map (times_read (tree_of l.expr)) (multiples_behind (pos l.step) (cut_down l.to l.step -ℤ pos l.k) l.k)))

abbrev pub invariant-end_of_all-loop-arg : goal.invariant-end_of_all-loop-arg
invariant-end_of_all-loop-arg l = record {
  small : are_small (trees_of (map tree_of (drop l.arg-index l.args))) ≡ true;
  room : unsigned_abs l.t + 17592186044416 * heights (trees_of (map tree_of (drop l.arg-index l.args))) ≤ 2251799813685248;
  read : farther_of l.end l.found (end_of l.end (all_times_read (trees_of (map tree_of (drop l.arg-index l.args))) l.t)) ≡ end_of l.end (all_times_read (trees_of (map tree_of l.args)) l.t);
}

abbrev pub invariant-end_over_all-loop-arg : goal.invariant-end_over_all-loop-arg
invariant-end_over_all-loop-arg l = record {
  small : are_small (trees_of (map tree_of (drop l.arg-index l.args))) ≡ true;
  first : unsigned_abs l.from + 17592186044416 * heights (trees_of (map tree_of (drop l.arg-index l.args))) ≤ 2251799813685248;
  last : unsigned_abs l.to + 17592186044416 * heights (trees_of (map tree_of (drop l.arg-index l.args))) ≤ 2251799813685248;
  read : farther_of l.end l.found (end_over_all l.end (trees_of (map tree_of (drop l.arg-index l.args))) l.step l.from l.to) ≡ end_over_all l.end (trees_of (map tree_of l.args)) l.step l.from l.to;
}
