use Rattle.std.proofs.Common.{◌≡◌, ◌++◌, map, drop}
use Rattle.pf_agg.proofs.rank.push_all.Given as goal

abbrev pub invariant-loop-element : goal.invariant-loop-element
invariant-loop-element l = l.found.items ++ map (λ e. e.now) (drop l.element-index l.elements) ≡ l.initial.found.items ++ map (λ e. e.now) l.elements
