use Rattle.std.proofs.Common.{◌≡◌, ◌++◌, length}
use Rattle.std.specs.Vec.Iter.{into_iter_items, into_iter_len}
use Rattle.pf_eval.proofs.pairing.with_more.Given as goal

abbrev pub invariant-loop-column : goal.invariant-loop-column
invariant-loop-column l =
    (l.found.items ++ into_iter_items l.column-iterator ≡ l.fn.columns.items ++ l.fn.more.items)
    × (into_iter_len l.column-iterator ≡ length (into_iter_items l.column-iterator))
