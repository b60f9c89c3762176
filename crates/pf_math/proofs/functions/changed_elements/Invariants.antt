use Rattle.std.proofs.Common.{◌≡◌, ◌++◌, drop}
use Rattle.pf_model.specs.InstantFunctions.{each_value}
use Rattle.pf_math.specs.EachValue.{changed}
use Rattle.pf_math.proofs.functions.changed_elements.Given as goal

abbrev pub invariant-loop-element : goal.invariant-loop-element
invariant-loop-element l =
    l.found.items ++ each_value (changed l.change) (drop l.element-index l.elements) ≡ each_value (changed l.change) l.elements
