use Rattle.std.proofs.Common.{◌<◌, IfSome, length}
use Rattle.pf_index.proofs.listing.shortest.Given as goal

abbrev pub invariant-loop-i : goal.invariant-loop-i
invariant-loop-i l = IfSome l.place (λ i. i < length l.matchers)
