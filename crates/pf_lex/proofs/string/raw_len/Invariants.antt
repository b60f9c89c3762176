use Rattle.std.proofs.Common.{◌≡◌, drop}
use Rattle.pf_lex.specs.Quotes.{raw_end}
use Rattle.pf_lex.proofs.Quoted.{moved}
use Rattle.pf_lex.proofs.string.raw_len.Given as goal

abbrev pub invariant-loop-i : goal.invariant-loop-i
invariant-loop-i l = raw_end l.bytes ≡ moved l.i (raw_end (drop l.i l.bytes))
