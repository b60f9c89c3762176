use Rattle.std.proofs.Common.{◌≡◌, map, take}
use Rattle.pf_math.specs.Relabelling.{relabels}
use Rattle.pf_math.proofs.functions.relabelled_elements.Given as goal

abbrev pub invariant-loop-element : goal.invariant-loop-element
invariant-loop-element l =
    (l.relabelling ≡ l.initial.relabelling)
    × (l.found.items ≡ map (λ e. record { labels = relabels l.initial.relabelling e.labels; value = e.value }) (take l.element-index l.elements))
