use Rattle.std.proofs.Common.{sym, ap, ◌∙◌, arith, w64}
use Rattle.std.specs.List.{filter}
use Rattle.std.specs.Arc.{arc_value}
use Rattle.std.proofs.lemmas.Int.{ints, to_z-of_z}
use Rattle.pf_block.specs.Blocks.{samples_in}
use Rattle.pf_block.specs.Layers.{is_spared}
use Rattle.pf_block.specs.Samples.{is_outside}
use Rattle.pf_block.proofs.Layering.{cut_layer, cut_left, none_spared}
use Rattle.pf_block.proofs.Parts.{empty_window, times_in_order}
use Rattle.pf_block.proofs.layer.Layer.without_of.Goals as goal

pub returns-then-gone-eq0 : goal.returns-then-gone-eq0
returns-then-gone-eq0 c =
    sym (none_spared c.args.id c.args.from c.args.to c.args.self
    (empty_window (samples_in c.args.id c.args.self) c.window-gone.result.now _ _ c.args.from c.args.to c.window-gone.ensures (omega (arith, ints)) (to_z-of_z w64 c.args.to c.ranges.to) c.if-gone-eq0.true))

pub without-requires-clause-to : goal.without-requires-clause-to
without-requires-clause-to c =
    let l = times_in_order (samples_in c.args.id c.args.self) c.window-gone.result.now _ _ c.args.from c.args.to c.window-gone.ensures (omega (arith, ints)) (to_z-of_z w64 c.args.to c.ranges.to) (omega (arith, c.if-gone-eq0.false)) in
    omega (arith, ints, l)

pub invariant_of-result : goal.invariant_of-result
invariant_of-result c =
    cut_layer (arc_value c.self.inside.block) c.self.inside.parts c.insert.new.self c.args.id c.args.from c.args.to c.self.invariant c.in_ok-part.part
    (c.in_ok-part.ensures ∙ (λ i. filter (is_outside (to_z-of_z w64 c.args.from c.ranges.from i) (to_z-of_z w64 c.args.to c.ranges.to i)) (c.in_ok-part_of.ensures i))) c.in_ok-insert.ensures.updates.0

pub returns : goal.returns
returns c =
    cut_left (arc_value c.self.inside.block) c.self.inside.parts c.insert.new.self c.args.id c.args.from c.args.to c.self.invariant c.in_ok-part.part
    (c.in_ok-part.ensures ∙ (λ i. filter (is_outside (to_z-of_z w64 c.args.from c.ranges.from i) (to_z-of_z w64 c.args.to c.ranges.to i)) (c.in_ok-part_of.ensures i))) c.in_ok-insert.ensures.updates.0
    ∙ ap (filter (is_spared c.args.id c.args.from c.args.to)) c.self.view_is
