use Rattle.std.proofs.Common.{◌≡◌, ◌≤◌, take}
use Rattle.pf_base.specs.NumberTexts.{without_end_zeros}
use Rattle.pf_base.proofs.number_text.without_zeros.Given as goal

abbrev pub invariant-loop-i : goal.invariant-loop-i
invariant-loop-i l = record { within : l.end ≤ l.i; same : take l.end l.digits ≡ without_end_zeros (take l.i l.digits) }
