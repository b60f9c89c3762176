use Rattle.std.proofs.Common.{◌≡◌, ◌+◌, drop}
use Rattle.std.specs.List.{prefix_len}
use Rattle.pf_base.specs.LabelSets.{goes_on}
use Rattle.pf_lex.proofs.spans.letters_len.Given as goal

abbrev pub invariant-loop-i : goal.invariant-loop-i
invariant-loop-i l = prefix_len goes_on l.bytes ≡ l.i + prefix_len goes_on (drop l.i l.bytes)
