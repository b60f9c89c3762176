use Rattle.std.proofs.Common.{◌≡◌, true, map, take, sym, ap, ◌∙◌, subst, w64}
use Rattle.std.proofs.lemmas.Int.{to_z-of_z}
use Rattle.std.specs.Arc.{arc_value}
use Rattle.pf_block.specs.Samples.{rises}
use Rattle.pf_block.specs.Snaps.{samples_of}
use Rattle.pf_block.specs.Stacks.{joined_in, series_in}
use Rattle.pf_block.proofs.Stacking.{kept_at, kept_rises, last_read}
use Rattle.pf_block.proofs.snap.Snap.last.Goals as goal

pub last_within-requires-clause-rises : goal.last_within-requires-clause-rises
last_within-requires-clause-rises c =
    subst (λ l. rises (series_in c.args.id (map arc_value l)) ≡ true) (sym c.deref.ensures.value) (kept_rises (arc_value c.self.inside.index) (map arc_value c.self.inside.blocks.items) c.self.inside.sizes.items c.self.inside.order c.self.invariant c.args.id)

pub last_within-requires-clause-front : goal.last_within-requires-clause-front
last_within-requires-clause-front c = subst (λ l. rises (joined_in c.args.id (take c.self.inside.order.ordered (map arc_value l))) ≡ true) (sym c.deref.ensures.value) (c.self.invariant.ordered.front c.args.id)

pub returns : goal.returns
returns c =
    last_read c.args.id _ _ _ _ _ _ c.args.after c.args.upto c.last_within.ensures (ap (map arc_value) c.deref.ensures.value)
    (kept_at (arc_value c.self.inside.index) (map arc_value c.self.inside.blocks.items) c.self.inside.sizes.items c.self.inside.order c.self.invariant c.args.id ∙ ap (λ s. samples_of s c.args.id) c.self.view_is)
    (to_z-of_z w64 c.args.after c.ranges.after) (to_z-of_z w64 c.args.upto c.ranges.upto)
