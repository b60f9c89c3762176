use Rattle.std.proofs.Common.{◌≡◌, ◌++◌, ℕ, length}
use Rattle.std.specs.Vec.Iter.{into_iter_items, into_iter_len}
use Rattle.pf_model.specs.InstantFunctions.{each_value}
use Rattle.pf_columns.specs.Columns.{cell_at}
use Rattle.pf_math.specs.EachValue.{changed}
use Rattle.pf_eval.specs.Calls.{change_at}
use Rattle.pf_eval.proofs.instant.changed_columns.Given as goal

abbrev pub invariant-loop-column : goal.invariant-loop-column
invariant-loop-column l =
    ((k : ℕ) → cell_at l.found.items k ++ each_value (changed (change_at l.changes k)) (cell_at (into_iter_items l.column-iterator) k)
    ≡ each_value (changed (change_at l.changes k)) (cell_at l.fn.columns.items k))
    × (into_iter_len l.column-iterator ≡ length (into_iter_items l.column-iterator))
