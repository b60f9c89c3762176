use Rattle.std.proofs.Common.{◌≡◌, [], length, map, get_or, sym, ap, ◌∙◌}
use Rattle.std.specs.Arc.{arc_value}
use Rattle.pf_block.proofs.Joining.{layer_is, layer_out, place_labels, place_within}
use Rattle.pf_base.specs.ShardHash.{shard_of}
use Rattle.pf_block.proofs.index_layers.shard_in.Goals as goal

pub shard-requires-clause-within : goal.shard-requires-clause-within
shard-requires-clause-within c =
    let layers = map arc_value c.args.layers.now in
    let p = c.place_of-place.ensures in
    let layer = c.deref.result.now in
    let is : layer ≡ get_or layers c.place_of-place.result.0 [] =
    layer_is arc_value c.args.layers.now c.place_of-place.result.0 c.index-layers-place.result layer (layer_out arc_value c.args.layers.now c.place_of-place.result.0 p.there) c.index-layers-place.is (c.deref.ensures) in
    place_within layers c.args.id c.place_of-place.result.0 c.place_of-place.result.1 layer is p

pub returns : goal.returns
returns c =
    let layers = map arc_value c.args.layers.now in
    let p = c.place_of-place.ensures in
    let layer = c.deref.result.now in
    let is : layer ≡ get_or layers c.place_of-place.result.0 [] =
    layer_is arc_value c.args.layers.now c.place_of-place.result.0 c.index-layers-place.result layer (layer_out arc_value c.args.layers.now c.place_of-place.result.0 p.there) c.index-layers-place.is (c.deref.ensures) in
    c.shard.ensures ∙ ap (λ l. shard_of l c.args.n) (place_labels layers c.args.id c.place_of-place.result.0 c.place_of-place.result.1 layer is p)
