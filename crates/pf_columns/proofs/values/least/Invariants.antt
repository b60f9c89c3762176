use Rattle.std.proofs.Common.{◌≡◌, ◌∷◌, drop}
use Rattle.pf_model.specs.Micros.{least}
use Rattle.pf_columns.proofs.values.least.Given as goal

abbrev pub invariant-loop-value : goal.invariant-loop-value
invariant-loop-value l = least (l.found ∷ drop l.value-index l.rest) ≡ least l.values
