use Rattle.std.proofs.Common.{◌≡◌, drop, false}
use Rattle.pf_parse.specs.Scans.{lost_at}
use Rattle.pf_parse.proofs.scans.unknown_at.Given as goal

abbrev pub invariant-loop-i : goal.invariant-loop-i
invariant-loop-i l = lost_at l.text l.behind_at (drop l.i l.tokens) ≡ lost_at l.text false l.tokens
