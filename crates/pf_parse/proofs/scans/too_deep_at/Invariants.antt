use Rattle.std.proofs.Common.{◌≡◌, ◌≤◌, drop}
use Rattle.pf_parse.specs.Scans.{deep_at}
use Rattle.pf_parse.proofs.scans.too_deep_at.Given as goal

abbrev pub invariant-loop-token : goal.invariant-loop-token
invariant-loop-token l = record {
  low : l.count ≤ 64;
  going : deep_at l.count (drop l.token-index l.tokens) ≡ deep_at 0 l.tokens;
}
