use Rattle.std.proofs.Common.{◌≡◌, drop, false}
use Rattle.pf_parse.specs.Scans.{late_at}
use Rattle.pf_parse.proofs.scans.too_large_at.Given as goal

abbrev pub invariant-loop-token : goal.invariant-loop-token
invariant-loop-token l = late_at l.behind_at (drop l.token-index l.tokens) ≡ late_at false l.tokens
