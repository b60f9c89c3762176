use Rattle.std.proofs.Common.{◌≡◌, ◌++◌, map, drop}
use Rattle.pf_columns.specs.Columns.{value_in}
use Rattle.pf_eval.specs.Nodes.{applied, changed, labelled}
use Rattle.pf_eval.proofs.change.changed_columns.Given as goal

abbrev pub invariant-loop-column : goal.invariant-loop-column
invariant-loop-column l =
    l.found.items ++ map (changed (labelled l.change) (λ k. applied l.change (value_in l.scalars k)) l.len) (drop l.column-index l.columns)
    ≡ map (changed (labelled l.change) (λ k. applied l.change (value_in l.scalars k)) l.len) l.columns
