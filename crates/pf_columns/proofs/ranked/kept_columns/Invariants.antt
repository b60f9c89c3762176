use Rattle.std.proofs.Common.{◌≡◌, ◌++◌, map, length, vec_len}
use Rattle.std.specs.Vec.Iter.{into_iter_items, into_iter_len}
use Rattle.pf_columns.specs.Ranks.{kept_columns}
use Rattle.pf_columns.proofs.ranked.kept_columns.Given as goal

abbrev pub invariant-loop-column : goal.invariant-loop-column
invariant-loop-column l = record {
  done : l.found.items ++ kept_columns (map (λ r. r.items) l.rows) (vec_len l.found) (into_iter_items l.column-iterator) ≡ kept_columns (map (λ r. r.items) l.rows) 0 l.fn.columns.items;
  left : into_iter_len l.column-iterator ≡ length (into_iter_items l.column-iterator);
}
