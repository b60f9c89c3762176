use Rattle.std.proofs.Common.{◌≡◌, true, map, sym, ap, ◌∙◌, subst, w64}
use Rattle.std.proofs.lemmas.Int.{to_z-of_z}
use Rattle.std.proofs.lemmas.Option.{IfSome_then}
use Rattle.std.specs.Arc.{arc_value}
use Rattle.pf_block.specs.Samples.{rises}
use Rattle.pf_block.specs.Snaps.{samples_of}
use Rattle.pf_block.specs.Stacks.{series_in}
use Rattle.pf_block.proofs.LentWindows.{lent_rises}
use Rattle.pf_block.proofs.Stacking.{kept_at, kept_rises, window_read}
use Rattle.pf_block.proofs.snap.Snap.lent.Goals as goal

pub lent-requires : goal.lent-requires
lent-requires c =
    subst (λ l. rises (series_in c.args.id (map arc_value l)) ≡ true) (sym c.deref.ensures.value) (kept_rises (arc_value c.self.inside.index) (map arc_value c.self.inside.blocks.items) c.self.inside.sizes.items c.self.inside.order c.self.invariant c.args.id)

pub returns-clause-window : goal.returns-clause-window
returns-clause-window c = IfSome_then c.lent.result c.lent.ensures (λ xs is.
    window_read c.args.id _ _ _ xs.now _ _ c.args.after c.args.upto is (ap (map arc_value) c.deref.ensures.value)
    (kept_at (arc_value c.self.inside.index) (map arc_value c.self.inside.blocks.items) c.self.inside.sizes.items c.self.inside.order c.self.invariant c.args.id ∙ ap (λ s. samples_of s c.args.id) c.self.view_is)
    (to_z-of_z w64 c.args.after c.ranges.after) (to_z-of_z w64 c.args.upto c.ranges.upto))

pub returns-clause-rises : goal.returns-clause-rises
returns-clause-rises c =
    let samples = samples_of c.args.self.now c.args.id in
    let same = kept_at (arc_value c.self.inside.index) (map arc_value c.self.inside.blocks.items) c.self.inside.sizes.items c.self.inside.order c.self.invariant c.args.id ∙ ap (λ s. samples_of s c.args.id) c.self.view_is in
    IfSome_then c.lent.result (returns-clause-window c) (λ xs is.
    lent_rises xs.now samples c.args.after c.args.upto is
    (subst (λ l. rises l ≡ true) same (kept_rises (arc_value c.self.inside.index) (map arc_value c.self.inside.blocks.items) c.self.inside.sizes.items c.self.inside.order c.self.invariant c.args.id)))
