use Rattle.std.proofs.Common.{◌≡◌, ◌-◌, drop, length, zero}
use Rattle.pf_lex.specs.Quotes.{quoted_end}
use Rattle.pf_lex.proofs.Quoted.{moved}
use Rattle.pf_lex.proofs.string.quoted_len.Given as goal

abbrev pub invariant-loop-i : goal.invariant-loop-i
invariant-loop-i l = quoted_end l.quote zero l.bytes ≡ moved l.i (quoted_end l.quote zero (drop l.i l.bytes))

abbrev pub decreases-loop-i : goal.decreases-loop-i
decreases-loop-i l = length l.bytes - l.i
