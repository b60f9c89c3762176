use Rattle.std.proofs.Common.{◌≡◌, take}
use Rattle.pf_base.proofs.labels.build.pack.Given as goal

abbrev pub invariant-loop-pair : goal.invariant-loop-pair
invariant-loop-pair l = l.found ≡ take l.pair-index l.pairs
