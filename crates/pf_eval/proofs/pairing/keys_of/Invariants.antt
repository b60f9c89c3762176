use Rattle.std.proofs.Common.{◌≡◌, ◌++◌, drop}
use Rattle.pf_eval.specs.Zipped.{column_keys}
use Rattle.pf_eval.proofs.pairing.keys_of.Given as goal

abbrev pub invariant-loop-column : goal.invariant-loop-column
invariant-loop-column l = l.found.items ++ column_keys l.matching (drop l.column-index l.columns) ≡ column_keys l.matching l.columns
