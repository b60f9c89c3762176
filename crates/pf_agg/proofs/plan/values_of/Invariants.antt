use Rattle.std.proofs.Common.{◌≡◌, ◌++◌, map, drop}
use Rattle.pf_model.specs.Cells.{values_of}
use Rattle.pf_agg.proofs.plan.values_of.Given as goal

abbrev pub invariant-loop-element : goal.invariant-loop-element
invariant-loop-element l = l.found.items ++ values_of (map (λ e. e.now) (drop l.element-index l.elements)) ≡ values_of (map (λ e. e.now) l.elements)
