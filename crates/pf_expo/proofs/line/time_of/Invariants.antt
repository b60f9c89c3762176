use Rattle.std.proofs.Common.{◌≡◌, take}
use Rattle.pf_base.specs.NumberTexts.{number_after}
use Rattle.pf_expo.specs.Scans.{capped}
use Rattle.pf_expo.proofs.line.time_of.Given as goal

abbrev pub invariant-loop-digit : goal.invariant-loop-digit
invariant-loop-digit l = l.time ≡ capped (number_after 0 (take l.digit-index l.digits))
