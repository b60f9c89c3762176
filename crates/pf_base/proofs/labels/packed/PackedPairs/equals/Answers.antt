use Rattle.std.proofs.Common.{sym, ◌∙◌}
use Rattle.std.specs.String.{string_bytes}
use Rattle.pf_base.proofs.LabelPacking.{hashes_apart, bounds_apart, texts_tell, apart_tested}
use Rattle.pf_base.proofs.labels.packed.PackedPairs.equals.Goals as goal
use Rattle.pf_base.proofs.labels.packed.PackedPairs.equals.Goals.{then-self-other, else-self-other}

pub returns-then-eq : goal.returns-then-eq
returns-then-eq c = elim c.if-self-other.branch [
  | then-self-other w ↦
      c.eq-then-eq.ensures
      ∙ texts_tell c.args.self.now c.args.other.now _ _ (string_bytes c.self.inside.text) (string_bytes c.other.inside.text) c.self.inside.bounds.items c.other.inside.bounds.items c.self.inside.hash c.other.inside.hash
      c.self.invariant c.other.invariant c.self.view_is c.other.view_is (sym w.eq.ensures ∙ sym w.value-is ∙ c.if-eq.true)
  | else-self-other w ↦ absurd (apart_tested c.self.inside.hash c.other.inside.hash w.if-self-other.false (sym w.value-is ∙ c.if-eq.true))
]

pub returns-else-eq : goal.returns-else-eq
returns-else-eq c = elim c.if-self-other.branch [
  | then-self-other w ↦
      c.if-eq.false
      ∙ bounds_apart c.args.self.now c.args.other.now _ _ (string_bytes c.self.inside.text) (string_bytes c.other.inside.text) c.self.inside.bounds.items c.other.inside.bounds.items c.self.inside.hash c.other.inside.hash
      c.self.invariant c.other.invariant c.self.view_is c.other.view_is (sym w.eq.ensures ∙ sym w.value-is ∙ c.if-eq.false)
  | else-self-other w ↦
      c.if-eq.false
      ∙ hashes_apart c.args.self.now c.args.other.now _ _ (string_bytes c.self.inside.text) (string_bytes c.other.inside.text) c.self.inside.bounds.items c.other.inside.bounds.items c.self.inside.hash c.other.inside.hash
      c.self.invariant c.other.invariant c.self.view_is c.other.view_is w.if-self-other.false
]
