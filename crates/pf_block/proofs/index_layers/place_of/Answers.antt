use Rattle.std.proofs.Common.{◌≡◌, ◌<◌, length, map, take, get_or, sym, ap, ◌∙◌, subst, arith, []}
use Rattle.std.specs.Arc.{arc_value}
use Rattle.pf_block.specs.IndexStacks.{joined}
use Rattle.pf_block.proofs.Joining.{joined_all, layer_in, layer_is, length_next}
use Rattle.pf_block.proofs.index_layers.place_of.Goals as goal

pub returns-then-local-count : goal.returns-then-local-count
returns-then-local-count c =
    let layers = map arc_value c.args.layers.now in
    let place = c.loop-place.place in
    let layer = c.index.result.now in
    let is : layer ≡ get_or layers place [] = layer_is arc_value c.args.layers.now place c.index-layers-place.result layer (omega arith) c.index-layers-place.is (c.index.ensures ∙ c.deref.ensures) in
    record {
      there = layer_in arc_value c.args.layers.now place (omega arith);
      within = subst (λ l. c.loop-place.local < length l) is (omega arith);
      behind = c.loop-place.invariant;
    }

pub loop-place-preserved : goal.loop-place-preserved
loop-place-preserved c =
    let layers = map arc_value c.args.layers.now in
    let place = c.loop-place.place in
    let layer = c.index.result.now in
    let is : layer ≡ get_or layers place [] = layer_is arc_value c.args.layers.now place c.index-layers-place.result layer (omega arith) c.index-layers-place.is (c.index.ensures ∙ c.deref.ensures) in
    let next = length_next place layers layer (layer_in arc_value c.args.layers.now place (omega arith)) is in
    omega (arith, next)

pub unreachable-requires : goal.unreachable-requires
unreachable-requires c =
    let all = joined_all arc_value c.args.layers.now c.loop-place.place (omega arith) in
    omega (arith, all)
