use Rattle.std.proofs.Common.{◌≡◌, true, length, map, take, sym, ap, ◌∙◌, subst}
use Rattle.std.specs.Arc.{arc_value}
use Rattle.pf_block.specs.Blocks.{entries_of, labels_with}
use Rattle.pf_block.specs.Samples.{rises}
use Rattle.pf_block.specs.Snaps.{are_new, with_rows}
use Rattle.pf_block.specs.Stacks.{IsPut, joined_in, series_in}
use Rattle.pf_block.proofs.Merging.{times}
use Rattle.pf_block.proofs.Stacking.{covers_length, kept_rises, with_is}
use Rattle.pf_block.proofs.Walks.{map_length}
use Rattle.pf_block.proofs.snap.Snap.with_block.Goals as goal

pub put-requires-clause-rises : goal.put-requires-clause-rises
put-requires-clause-rises c = λ id.
    subst (λ l. rises (series_in id (map arc_value l)) ≡ true) (sym c.deref.ensures.value) (kept_rises (arc_value c.self.inside.index) (map arc_value c.self.inside.blocks.items) c.self.inside.sizes.items c.self.inside.order c.self.invariant id)

pub put-requires-clause-front : goal.put-requires-clause-front
put-requires-clause-front c = λ id.
    subst (λ l. rises (joined_in id (take c.self.inside.order.ordered (map arc_value l))) ≡ true) (sym c.deref.ensures.value) (c.self.invariant.ordered.front id)

pub invariant_of-snap : goal.invariant_of-snap
invariant_of-snap c =
    (with_is (arc_value c.self.inside.index) (arc_value c.args.index) (map arc_value c.self.inside.blocks.items) (map arc_value c.in_ok-blocks.blocks.items) c.self.inside.sizes.items c.in_ok-blocks.sizes.items c.self.inside.order c.in_ok-blocks.order c.args.block
    c.args.rows.now c.self.invariant c.requires.ascends (subst (λ s. are_new s c.args.rows.now ≡ true) (sym c.self.view_is) c.requires.fresh) c.requires.timed (c.requires.labels ∙ ap (λ s. labels_with s.labels c.args.rows.now) (sym c.self.view_is))
    c.requires.few
    (λ k x. c.requires.samples k x ∙ ap (λ s. times k x (entries_of s.labels c.args.rows.now)) (sym c.self.view_is))
    (subst (λ l. IsPut (map arc_value l) c.self.inside.sizes.items c.self.inside.order c.args.block (map arc_value c.in_ok-blocks.blocks.items) c.in_ok-blocks.sizes.items c.in_ok-blocks.order) c.deref.ensures.value
    (subst (λ n. IsPut (map arc_value c.deref.result.now) n c.self.inside.order c.args.block (map arc_value c.in_ok-blocks.blocks.items) c.in_ok-blocks.sizes.items c.in_ok-blocks.order) c.deref-2.ensures.value c.in_ok-blocks.ensures))).1

pub returns : goal.returns
returns c =
    c.in_ok-new.ensures.ok
    ∙ (with_is (arc_value c.self.inside.index) (arc_value c.args.index) (map arc_value c.self.inside.blocks.items) (map arc_value c.in_ok-blocks.blocks.items) c.self.inside.sizes.items c.in_ok-blocks.sizes.items c.self.inside.order c.in_ok-blocks.order c.args.block
    c.args.rows.now c.self.invariant c.requires.ascends (subst (λ s. are_new s c.args.rows.now ≡ true) (sym c.self.view_is) c.requires.fresh) c.requires.timed (c.requires.labels ∙ ap (λ s. labels_with s.labels c.args.rows.now) (sym c.self.view_is))
    c.requires.few
    (λ k x. c.requires.samples k x ∙ ap (λ s. times k x (entries_of s.labels c.args.rows.now)) (sym c.self.view_is))
    (subst (λ l. IsPut (map arc_value l) c.self.inside.sizes.items c.self.inside.order c.args.block (map arc_value c.in_ok-blocks.blocks.items) c.in_ok-blocks.sizes.items c.in_ok-blocks.order) c.deref.ensures.value
    (subst (λ n. IsPut (map arc_value c.deref.result.now) n c.self.inside.order c.args.block (map arc_value c.in_ok-blocks.blocks.items) c.in_ok-blocks.sizes.items c.in_ok-blocks.order) c.deref-2.ensures.value c.in_ok-blocks.ensures))).0
    ∙ ap (λ s. with_rows s c.args.rows.now) c.self.view_is

pub put-requires-clause-count : goal.put-requires-clause-count
put-requires-clause-count c =
    ap length c.deref-2.ensures.value ∙ covers_length c.self.inside.sizes.items (map arc_value c.self.inside.blocks.items) c.self.invariant.covers
    ∙ map_length arc_value c.self.inside.blocks.items ∙ sym (ap length c.deref.ensures.value)
