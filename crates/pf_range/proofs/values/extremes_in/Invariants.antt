use Rattle.std.proofs.Common.{◌≡◌, ◌∷◌}
use Rattle.pf_model.specs.Micros.{greatest, least}
use Rattle.pf_model.specs.RangeFunctions.{values}
use Rattle.pf_range.proofs.values.extremes_in.Given as goal

abbrev pub invariant-loop-sample : goal.invariant-loop-sample
invariant-loop-sample l = record {
  goes : goal.iterator-loop-sample.can_next l.sample-iterator × goal.iterator-loop-sample.is_finite l.sample-iterator;
  least : least (l.least ∷ values l.sample-iterator) ≡ least (values l.fn.window);
  greatest : greatest (l.greatest ∷ values l.sample-iterator) ≡ greatest (values l.fn.window);
}
