use Rattle.std.proofs.Common.{◌≡◌}
use Rattle.std.proofs.lemmas.List.Filters.{FiltersInPlace}
use Rattle.pf_index.specs.Sieving.{AreKnown, holds_of}
use Rattle.pf_index.proofs.sieving.sieve.Given as goal

abbrev pub invariant-loop-i : goal.invariant-loop-i
invariant-loop-i l = record {
  same : l.asker ≡ l.initial.asker;
  known : AreKnown l.matcher l.snap.labels l.verdicts.by_series.items l.verdicts.without;
  held : FiltersInPlace (holds_of l.matcher l.snap.labels) l.initial.ids.items l.ids.items l.kept l.i;
}
