use Rattle.std.proofs.Common.{◌≡◌, true, map, take, sym, ap, ◌∙◌, subst, w64}
use Rattle.std.proofs.lemmas.Int.{to_z-of_z}
use Rattle.std.specs.Arc.{arc_value}
use Rattle.pf_block.specs.Samples.{rises}
use Rattle.pf_block.specs.Snaps.{samples_of}
use Rattle.pf_block.specs.Stacks.{joined_in, series_in}
use Rattle.pf_block.proofs.Stacking.{kept_at, kept_rises, window_read}
use Rattle.pf_block.proofs.snap.Snap.window.Goals as goal

pub over-requires-clause-rises : goal.over-requires-clause-rises
over-requires-clause-rises c =
    subst (λ l. rises (series_in c.args.id (map arc_value l)) ≡ true) (sym c.deref.ensures.value) (kept_rises (arc_value c.self.inside.index) (map arc_value c.self.inside.blocks.items) c.self.inside.sizes.items c.self.inside.order c.self.invariant c.args.id)

pub over-requires-clause-front : goal.over-requires-clause-front
over-requires-clause-front c = subst (λ l. rises (joined_in c.args.id (take c.self.inside.order.ordered (map arc_value l))) ≡ true) (sym c.deref.ensures.value) (c.self.invariant.ordered.front c.args.id)

pub returns : goal.returns
returns c =
    window_read c.args.id _ _ _ _ _ _ c.args.after c.args.upto c.over.ensures (ap (map arc_value) c.deref.ensures.value)
    (kept_at (arc_value c.self.inside.index) (map arc_value c.self.inside.blocks.items) c.self.inside.sizes.items c.self.inside.order c.self.invariant c.args.id ∙ ap (λ s. samples_of s c.args.id) c.self.view_is)
    (to_z-of_z w64 c.args.after c.ranges.after) (to_z-of_z w64 c.args.upto c.ranges.upto)
