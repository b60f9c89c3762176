use Rattle.std.proofs.Common.{◌≡◌, ◌-◌, ◌++◌, drop, length, zero}
use Rattle.std.specs.Prelude.{option_map}
use Rattle.pf_model.specs.Tokens.{string_from}
use Rattle.pf_lex.proofs.value.quoted_value.Given as goal

abbrev pub invariant-loop-i : goal.invariant-loop-i
invariant-loop-i l = string_from l.quote zero l.bytes ≡ option_map (λ w. l.value.items ++ w) (string_from l.quote zero (drop l.i l.bytes))

abbrev pub decreases-loop-i : goal.decreases-loop-i
decreases-loop-i l = length l.bytes - l.i
