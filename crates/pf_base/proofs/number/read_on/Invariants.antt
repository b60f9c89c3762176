use Rattle.std.proofs.Common.{◌≡◌, take}
use Rattle.pf_base.specs.NumberTexts.{number_after}
use Rattle.pf_base.specs.NumberScans.{capped}
use Rattle.pf_base.proofs.number.read_on.Given as goal

abbrev pub invariant-loop-digit : goal.invariant-loop-digit
invariant-loop-digit l = l.size ≡ capped (number_after l.fn.size (take l.digit-index l.digits))
