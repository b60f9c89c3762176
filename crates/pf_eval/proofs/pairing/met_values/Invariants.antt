use Rattle.std.proofs.Common.{◌≡◌, map}
use Rattle.pf_model.specs.Merging.{below}
use Rattle.pf_columns.specs.Columns.{value_in}
use Rattle.pf_eval.specs.Zipped.{are_there, is_wanted, kept_if}
use Rattle.pf_eval.proofs.pairing.met_values.Given as goal

abbrev pub invariant-loop-i : goal.invariant-loop-i
invariant-loop-i l =
    l.found.items ≡ below (λ k. kept_if (is_wanted l.wanted (are_there (map (λ c. c.now) l.others) k)) (value_in l.values k)) l.i
