use Rattle.std.proofs.Common.{◌≡◌, ◌++◌, ℕ, length, map}
use Rattle.std.specs.Vec.Iter.{into_iter_items, into_iter_len}
use Rattle.pf_columns.specs.Columns.{cell_at}
use Rattle.pf_math.specs.Relabelling.{relabels}
use Rattle.pf_eval.proofs.instant.relabelled_columns.Given as goal

abbrev pub invariant-loop-column : goal.invariant-loop-column
invariant-loop-column l = record {
  same : l.relabelling ≡ l.initial.relabelling;
  each : (k : ℕ) → cell_at l.found.items k ++ map (λ e. record { labels = relabels l.initial.relabelling e.labels; value = e.value }) (cell_at (into_iter_items l.column-iterator) k)
      ≡ map (λ e. record { labels = relabels l.initial.relabelling e.labels; value = e.value }) (cell_at l.fn.columns.items k);
  many : into_iter_len l.column-iterator ≡ length (into_iter_items l.column-iterator);
}
