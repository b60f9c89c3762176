use Rattle.std.proofs.Common.{◌≡◌}
use Rattle.pf_model.specs.Merging.{below}
use Rattle.pf_columns.specs.Columns.{value_in}
use Rattle.pf_eval.specs.Zipped.{between, both}
use Rattle.pf_eval.proofs.pairing.pair_values.Given as goal

abbrev pub invariant-loop-i : goal.invariant-loop-i
invariant-loop-i l = l.found.items ≡ below (λ k. both (between l.op) (value_in l.lefts k) (value_in l.rights k)) l.i
