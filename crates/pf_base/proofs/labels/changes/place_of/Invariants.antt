use Rattle.std.proofs.Common.{◌≡◌, ◌+◌, drop}
use Rattle.pf_base.specs.LabelWalk.{place}
use Rattle.pf_base.proofs.labels.changes.place_of.Given as goal

abbrev pub invariant-loop-i : goal.invariant-loop-i
invariant-loop-i l = l.i + place l.name (drop l.i l.pairs) ≡ place l.name l.pairs
