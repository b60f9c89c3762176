use Rattle.std.proofs.Common.{◌≡◌, length}
use Rattle.std.specs.Vec.Iter.{into_iter_items, into_iter_len}
use Rattle.pf_base.specs.Sorting.{isort}
use Rattle.pf_columns.specs.Steps.{column_cmp}
use Rattle.pf_columns.proofs.Fusing.{AreFused}
use Rattle.pf_columns.proofs.steps.fused.Given as goal

abbrev pub invariant-loop-column : goal.invariant-loop-column
invariant-loop-column l =
    AreFused (isort column_cmp l.fn.columns.items) l.fn.bads.items l.len l.fusing.done.items l.fusing.last l.fusing.bads.items (into_iter_items l.column-iterator)
    × (into_iter_len l.column-iterator ≡ length (into_iter_items l.column-iterator))
