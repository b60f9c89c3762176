use Rattle.std.proofs.Common.{◌≡◌, drop, false}
use Rattle.pf_expo.specs.Scans.{quoted_from}
use Rattle.pf_expo.proofs.Quoted.{with_bytes}
use Rattle.pf_expo.proofs.labels.quoted_from.Given as goal

abbrev pub invariant-loop-i : goal.invariant-loop-i
invariant-loop-i l = with_bytes l.text.items (quoted_from (drop l.i l.bytes) l.escaping) ≡ quoted_from l.bytes false
