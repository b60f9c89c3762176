use Rattle.std.proofs.Common.{◌≡◌, drop}
use Rattle.pf_columns.specs.Ranks.{marked}
use Rattle.pf_columns.proofs.ranked.mark.Given as goal

abbrev pub invariant-loop-entry : goal.invariant-loop-entry
invariant-loop-entry l = marked (drop l.entry-index l.entries) l.marks ≡ marked l.entries l.fn.marks
