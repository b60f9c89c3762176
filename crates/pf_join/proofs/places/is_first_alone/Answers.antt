use Rattle.std.proofs.Common.{◌≤◌, Bool, not, length, sym, ap, ◌∙◌, arith}
use Rattle.std.specs.Ordering.{is_gt}
use Rattle.pf_base.specs.LabelOrder.{labels_cmp}
use Rattle.pf_join.specs.KeyPlaces.{key_of}
use Rattle.pf_join.specs.declared.places.KeyPlace.{KeyPlace}
use Rattle.pf_join.proofs.Finding.{front_near, some_there, upto_parted}
use Rattle.pf_join.proofs.places.is_first_alone.Goals as goal

pub returns-then-entries-eq1-clause-front : goal.returns-then-entries-eq1-clause-front
returns-then-entries-eq1-clause-front c h =
    let p : KeyPlace → Bool = λ x. not (is_gt (labels_cmp x.key c.args.key.now)) in
    front_near p c.args.entries.now (upto_parted key_of c.args.key.now c.args.entries.now c.requires) 1 (omega (arith, c.if-entries-eq1.true))
    (λ d g. ap not (sym (c.is_above_at.ensures d) ∙ c.if-is_above_at.false)) (λ d g. absurd (omega (arith, g, c.if-entries-eq1.true)))

pub returns-clause-front : goal.returns-clause-front
returns-clause-front c h =
    let p : KeyPlace → Bool = λ x. not (is_gt (labels_cmp x.key c.args.key.now)) in
    let some : 1 ≤ length c.args.entries.now = some_there c.args.entries.now c.if-is_empty.ensures in
    front_near p c.args.entries.now (upto_parted key_of c.args.key.now c.args.entries.now c.requires) 1 some
    (λ d g. ap not (sym (c.is_above_at.ensures d) ∙ c.if-is_above_at.false)) (λ d g. ap not (sym (c.is_above_at-2.ensures d) ∙ h))
