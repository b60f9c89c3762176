use Rattle.std.proofs.Common.{◌≡◌, ◌<◌, ◌^◌, ◌++◌, length}
use Rattle.std.specs.Prelude.{slice_range}
use Rattle.std.specs.List.{filter}
use Rattle.pf_base.proofs.labels.changes.with_chosen.Given as goal

abbrev pub invariant-loop-i : goal.invariant-loop-i
invariant-loop-i g l = record {
  pairs : l.found ++ filter (λ p. g.C.Choice.is_chosen l.choice p.0) (slice_range l.pairs l.i l.end) ≡ l.fn.found ++ filter (λ p. g.C.Choice.is_chosen l.choice p.0) (slice_range l.pairs l.start l.end);
  few : length l.found < 2 ^ 32;
}
