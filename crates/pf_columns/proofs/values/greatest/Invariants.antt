use Rattle.std.proofs.Common.{◌≡◌, ◌∷◌, drop}
use Rattle.pf_model.specs.Micros.{greatest}
use Rattle.pf_columns.proofs.values.greatest.Given as goal

abbrev pub invariant-loop-value : goal.invariant-loop-value
invariant-loop-value l = greatest (l.found ∷ drop l.value-index l.rest) ≡ greatest l.values
