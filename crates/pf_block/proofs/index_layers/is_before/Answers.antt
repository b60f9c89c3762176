use Rattle.std.proofs.Common.{◌≡◌, [], is_lt, length, map, get_or, sym, ap, ◌∙◌}
use Rattle.std.specs.Arc.{arc_value}
use Rattle.pf_base.specs.LabelOrder.{labels_cmp}
use Rattle.pf_block.proofs.Joining.{layer_is, layer_out, place_labels, place_within}
use Rattle.pf_block.proofs.index_layers.is_before.Goals as goal

pub is_before-requires : goal.is_before-requires
is_before-requires c =
    let layers = map arc_value c.args.layers.now in
    let p = c.place_of-place.ensures in
    let layer = c.deref.result.now in
    let is : layer ≡ get_or layers c.place_of-place.result.0 [] =
    layer_is arc_value c.args.layers.now c.place_of-place.result.0 c.index-layers-place.result layer (layer_out arc_value c.args.layers.now c.place_of-place.result.0 p.there) c.index-layers-place.is (c.deref.ensures) in
    let q = c.place_of-other_place.ensures in
    let same : layer ≡ get_or layers c.place_of-other_place.result.0 [] = is ∙ ap (λ n. get_or layers n []) c.if-place-other_place.true in
    record {
      first = place_within layers c.args.id c.place_of-place.result.0 c.place_of-place.result.1 layer is p;
      second = place_within layers c.args.other c.place_of-other_place.result.0 c.place_of-other_place.result.1 layer same q;
    }

pub returns-then-place-other_place : goal.returns-then-place-other_place
returns-then-place-other_place c =
    let layers = map arc_value c.args.layers.now in
    let p = c.place_of-place.ensures in
    let layer = c.deref.result.now in
    let is : layer ≡ get_or layers c.place_of-place.result.0 [] =
    layer_is arc_value c.args.layers.now c.place_of-place.result.0 c.index-layers-place.result layer (layer_out arc_value c.args.layers.now c.place_of-place.result.0 p.there) c.index-layers-place.is (c.deref.ensures) in
    let q = c.place_of-other_place.ensures in
    let same : layer ≡ get_or layers c.place_of-other_place.result.0 [] = is ∙ ap (λ n. get_or layers n []) c.if-place-other_place.true in
    let one = place_labels layers c.args.id c.place_of-place.result.0 c.place_of-place.result.1 layer is p in
    let two = place_labels layers c.args.other c.place_of-other_place.result.0 c.place_of-other_place.result.1 layer same q in
    c.is_before.ensures ∙ (λ i. is_lt (labels_cmp (one i) (two i)))

pub returns : goal.returns
returns c =
    let layers = map arc_value c.args.layers.now in
    let p = c.place_of-place.ensures in
    let layer = c.index.result.now in
    let is : layer ≡ get_or layers c.place_of-place.result.0 [] =
    layer_is arc_value c.args.layers.now c.place_of-place.result.0 c.index-layers-place.result layer (layer_out arc_value c.args.layers.now c.place_of-place.result.0 p.there) c.index-layers-place.is (c.index.ensures ∙ c.deref-2.ensures) in
    let q = c.place_of-other_place.ensures in
    let second = c.index-2.result.now in
    let other : second ≡ get_or layers c.place_of-other_place.result.0 [] =
    layer_is arc_value c.args.layers.now c.place_of-other_place.result.0 c.index-layers-other_place.result second (layer_out arc_value c.args.layers.now c.place_of-other_place.result.0 q.there) c.index-layers-other_place.is (c.index-2.ensures ∙ c.deref-3.ensures) in
    let one = c.labels.ensures ∙ place_labels layers c.args.id c.place_of-place.result.0 c.place_of-place.result.1 layer is p in
    let two = c.labels-2.ensures ∙ place_labels layers c.args.other c.place_of-other_place.result.0 c.place_of-other_place.result.1 second other q in
    c.lt.ensures ∙ (λ i. is_lt (labels_cmp (one i) (two i)))
