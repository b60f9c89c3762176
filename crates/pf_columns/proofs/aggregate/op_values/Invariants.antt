use Rattle.std.proofs.Common.{◌≡◌, map}
use Rattle.pf_model.specs.Cells.{values_of}
use Rattle.pf_columns.specs.Columns.{cell_at}
use Rattle.pf_columns.specs.Groups.{found_of, group_value}
use Rattle.pf_model.specs.Merging.{below}
use Rattle.pf_columns.proofs.aggregate.op_values.Given as goal

abbrev pub invariant-loop-i : goal.invariant-loop-i
invariant-loop-i l =
    l.found.items ≡ below (λ k. found_of (group_value l.op) (values_of (cell_at (map (λ c. c.now) l.columns) k))) l.i
