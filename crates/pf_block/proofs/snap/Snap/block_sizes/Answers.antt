use Rattle.std.proofs.Common.{length, map, ap, ◌∙◌, arith}
use Rattle.std.specs.Arc.{arc_value}
use Rattle.pf_block.specs.Stacks.{doubles, total}
use Rattle.pf_block.proofs.Stacking.{covers_total}
use Rattle.pf_block.proofs.Totals.{total_most}
use Rattle.pf_block.proofs.snap.Snap.block_sizes.Goals as goal

pub returns-clause-doubles : goal.returns-clause-doubles
returns-clause-doubles c = ap doubles (c.of.ensures.sizes ∙ c.deref.ensures.value) ∙ c.self.invariant.doubles

pub returns-clause-rows : goal.returns-clause-rows
returns-clause-rows c =
    let m = total_most 0 (length (arc_value c.self.inside.index)) (map arc_value c.self.inside.blocks.items) in
    let k = covers_total c.self.inside.sizes.items (map arc_value c.self.inside.blocks.items) c.self.invariant.covers in
    let s = ap total (c.of.ensures.sizes ∙ c.deref.ensures.value) in
    let v = ap (λ x. total (map length x.samples)) c.self.view_is in
    omega (arith, m, k, s, v)
