use Rattle.std.proofs.Common.{◌≡◌, ◌<◌, ◌-◌, Bool, true, get_or, sym, ◌∙◌, arith}
use Rattle.std.proofs.lemmas.Bool.{not-true}
use Rattle.std.specs.Ordering.{is_lt}
use Rattle.pf_base.specs.LabelOrder.{labels_cmp}
use Rattle.pf_join.specs.KeyPlaces.{key_of}
use Rattle.pf_join.specs.declared.places.KeyPlace.{KeyPlace}
use Rattle.pf_join.proofs.Finding.{back_near, below_parted}
use Rattle.pf_join.proofs.places.are_lesser.Goals as goal
use Rattle.pf_join.proofs.places.are_lesser.Goals.{then-count-gt0+else-not-is_below_at, else-count-gt0}

pub returns-then-count-entries-2-clause-rest : goal.returns-then-count-entries-2-clause-rest
returns-then-count-entries-2-clause-rest c h =
    let p : KeyPlace → Bool = λ x. is_lt (labels_cmp x.key c.args.key.now) in
    let before : (d : KeyPlace) → 0 < c.args.count → p (get_or c.args.entries.now (c.args.count - 1) d) ≡ true =
    elim c.if-count-gt0.branch [
      | then-count-gt0+else-not-is_below_at w ↦ λ d g. sym (w.is_below_at.ensures d) ∙ w.if-not-is_below_at.false
      | else-count-gt0 w ↦ λ d g. absurd (omega (arith, g, w.if-count-gt0.false))
    ] in
    back_near p c.args.entries.now (below_parted key_of c.args.key.now c.args.entries.now c.requires) c.args.count c.if-count-entries.false before
    (λ d g. absurd (omega (arith, g, c.if-count-entries-2.true)))

pub returns-clause-rest : goal.returns-clause-rest
returns-clause-rest c h =
    let p : KeyPlace → Bool = λ x. is_lt (labels_cmp x.key c.args.key.now) in
    let before : (d : KeyPlace) → 0 < c.args.count → p (get_or c.args.entries.now (c.args.count - 1) d) ≡ true =
    elim c.if-count-gt0.branch [
      | then-count-gt0+else-not-is_below_at w ↦ λ d g. sym (w.is_below_at.ensures d) ∙ w.if-not-is_below_at.false
      | else-count-gt0 w ↦ λ d g. absurd (omega (arith, g, w.if-count-gt0.false))
    ] in
    back_near p c.args.entries.now (below_parted key_of c.args.key.now c.args.entries.now c.requires) c.args.count c.if-count-entries.false before
    (λ d g. sym (c.is_below_at-2.ensures d) ∙ not-true c.is_below_at-2.result h)
