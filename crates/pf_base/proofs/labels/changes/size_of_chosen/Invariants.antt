use Rattle.std.proofs.Common.{◌≡◌, ◌+◌, drop, length}
use Rattle.std.specs.List.{filter}
use Rattle.pf_base.proofs.labels.changes.size_of_chosen.Given as goal

abbrev pub invariant-loop-i : goal.invariant-loop-i
invariant-loop-i g l = l.size.pairs + length (filter (λ p. g.C.Choice.is_chosen l.choice p.0) (drop l.i l.pairs)) ≡ length (filter (λ p. g.C.Choice.is_chosen l.choice p.0) l.pairs)
