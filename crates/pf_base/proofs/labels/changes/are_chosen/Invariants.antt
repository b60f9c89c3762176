use Rattle.std.proofs.Common.{◌≡◌, ◌≤◌, drop, length}
use Rattle.std.specs.List.{filter}
use Rattle.pf_base.specs.LabelOrder.{labels_eq}
use Rattle.pf_base.proofs.labels.changes.are_chosen.Given as goal

abbrev pub invariant-loop-i : goal.invariant-loop-i
invariant-loop-i g l = record {
  met : l.met ≤ length l.key;
  rest : labels_eq (filter (λ p. g.C.Choice.is_chosen l.choice p.0) (drop l.i l.pairs)) (drop l.met l.key) ≡ labels_eq (filter (λ p. g.C.Choice.is_chosen l.choice p.0) l.pairs) l.key;
}
