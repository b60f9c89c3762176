use Rattle.std.proofs.Common.{◌≡◌, ◌≤◌, ◌*◌, ◌∷◌, ◌+ℤ◌, drop}
use Rattle.std.specs.Prelude.{unsigned_abs}
use Rattle.pf_model.specs.Micros.{greatest, least, total}
use Rattle.pf_agg.proofs.KnownGroups.{values}
use Rattle.pf_agg.proofs.partial.partial_of.Given as goal

-- what is summed is not more than a greatest value for each
abbrev pub invariant-loop-element : goal.invariant-loop-element
invariant-loop-element l = record {
  sums : l.sum +ℤ total (drop l.element-index (values l.elements)) ≡ total (values l.elements);
  small : unsigned_abs l.sum ≤ l.element-index * 1000000000000000000;
  lowest : least (l.least ∷ drop l.element-index (values l.elements)) ≡ least (values l.elements);
  highest : greatest (l.greatest ∷ drop l.element-index (values l.elements)) ≡ greatest (values l.elements);
}
