use Rattle.std.proofs.Common.{◌≡◌, true, length, map, sym, ap, ◌∙◌, subst, arith}
use Rattle.std.proofs.lemmas.Int.{ints}
use Rattle.std.specs.Arc.{arc_value}
use Rattle.pf_block.specs.Snaps.{without_rows}
use Rattle.pf_block.specs.Samples.{rises}
use Rattle.pf_block.specs.Stacks.{series_in}
use Rattle.pf_block.proofs.Stacking.{covers_length, cut_made, kept_rises}
use Rattle.pf_block.proofs.Walks.{map_length}
use Rattle.pf_block.proofs.snap.Snap.without.Goals as goal

pub invariant_of-snap : goal.invariant_of-snap
invariant_of-snap c =
    (cut_made (arc_value c.self.inside.index) (arc_value c.in_ok-try_clone.field-0) (map arc_value c.self.inside.blocks.items) (map arc_value c.deref.result.now) (map arc_value c.in_ok-blocks.blocks.items)
    c.self.inside.sizes.items c.deref-2.result.now c.in_ok-blocks.sizes.items c.self.inside.order c.in_ok-blocks.order c.args.series.now c.args.from c.args.to _ _ c.self.invariant c.in_ok-blocks.ensures (ap (map arc_value) c.deref.ensures.value) c.deref-2.ensures.value
    (omega (arith, ints)) (omega (arith, ints)) c.in_ok-try_clone.ensures).1

pub returns : goal.returns
returns c =
    c.in_ok-new.ensures.ok
    ∙ (cut_made (arc_value c.self.inside.index) (arc_value c.in_ok-try_clone.field-0) (map arc_value c.self.inside.blocks.items) (map arc_value c.deref.result.now) (map arc_value c.in_ok-blocks.blocks.items)
    c.self.inside.sizes.items c.deref-2.result.now c.in_ok-blocks.sizes.items c.self.inside.order c.in_ok-blocks.order c.args.series.now c.args.from c.args.to _ _ c.self.invariant c.in_ok-blocks.ensures (ap (map arc_value) c.deref.ensures.value) c.deref-2.ensures.value
    (omega (arith, ints)) (omega (arith, ints)) c.in_ok-try_clone.ensures).0
    ∙ ap (λ s. without_rows s c.args.series.now c.args.from c.args.to) c.self.view_is

pub cut-requires-clause-rises : goal.cut-requires-clause-rises
cut-requires-clause-rises c = λ id.
    subst (λ l. rises (series_in id (map arc_value l)) ≡ true) (sym c.deref.ensures.value)
    (kept_rises (arc_value c.self.inside.index) (map arc_value c.self.inside.blocks.items) c.self.inside.sizes.items c.self.inside.order c.self.invariant id)

pub cut-requires-clause-count : goal.cut-requires-clause-count
cut-requires-clause-count c =
    ap length c.deref-2.ensures.value ∙ covers_length c.self.inside.sizes.items (map arc_value c.self.inside.blocks.items) c.self.invariant.covers
    ∙ map_length arc_value c.self.inside.blocks.items ∙ sym (ap length c.deref.ensures.value)
