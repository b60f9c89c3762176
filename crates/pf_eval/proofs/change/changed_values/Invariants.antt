use Rattle.std.proofs.Common.{◌≡◌}
use Rattle.pf_model.specs.Merging.{below}
use Rattle.pf_columns.specs.Columns.{value_in}
use Rattle.pf_eval.specs.Nodes.{applied, onto}
use Rattle.pf_eval.proofs.change.changed_values.Given as goal

abbrev pub invariant-loop-i : goal.invariant-loop-i
invariant-loop-i l = l.found.items ≡ below (λ k. onto (value_in l.values k) (applied l.change (value_in l.scalars k))) l.i
