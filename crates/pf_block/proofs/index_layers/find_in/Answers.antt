use Rattle.std.proofs.Common.{◌≡◌, None, [], length, map, take, get_or, sym, ap, ◌∙◌, arith}
use Rattle.std.specs.Arc.{arc_value}
use Rattle.pf_block.specs.SeriesIds.{id_of}
use Rattle.pf_block.proofs.Joining.{first_next, found_few, found_in, joined_upto, layer_in, layer_is, next_few, none_next}
use Rattle.pf_block.proofs.index_layers.find_in.Goals as goal

pub overflow_add-result : goal.overflow_add-result
overflow_add-result c =
    let layers = map arc_value c.args.layers.now in
    let n = c.loop-layer.layer-index in
    let layer = c.index.result.now in
    let is : layer ≡ get_or layers n [] = layer_is arc_value c.args.layers.now n c.layer-item.result layer (omega arith) c.layer-item.is (c.index.ensures ∙ c.deref.ensures) in
    let there = layer_in arc_value c.args.layers.now n (omega arith) in
    let few = found_few c.args.labels.now layers n layer there is c.loop-layer.invariant.none c.loop-layer.first c.loop-layer.invariant.first c.in-Some.local c.requires (sym c.in-Some.is ∙ c.find.ensures) in
    omega (arith, few)

pub returns-in-Some : goal.returns-in-Some
returns-in-Some c =
    let layers = map arc_value c.args.layers.now in
    let n = c.loop-layer.layer-index in
    let layer = c.index.result.now in
    let is : layer ≡ get_or layers n [] = layer_is arc_value c.args.layers.now n c.layer-item.result layer (omega arith) c.layer-item.is (c.index.ensures ∙ c.deref.ensures) in
    let there = layer_in arc_value c.args.layers.now n (omega arith) in
    found_in c.args.labels.now layers n layer there is c.loop-layer.invariant.none c.loop-layer.first c.loop-layer.invariant.first c.in-Some.local (sym c.in-Some.is ∙ c.find.ensures)

pub overflow_add-first : goal.overflow_add-first
overflow_add-first c =
    let layers = map arc_value c.args.layers.now in
    let n = c.loop-layer.layer-index in
    let layer = c.index-in-loop-layer.result.now in
    let is : layer ≡ get_or layers n [] = layer_is arc_value c.args.layers.now n c.layer-item.result layer (omega arith) c.layer-item.is (c.index-in-loop-layer.ensures ∙ c.deref-in-loop-layer.ensures) in
    let there = layer_in arc_value c.args.layers.now n (omega arith) in
    let few = next_few c.args.labels.now layers n layer there is c.loop-layer.invariant.none c.loop-layer.first c.loop-layer.invariant.first c.count-first.result c.count-first.ensures.value c.requires in
    omega (arith, few)

pub loop-layer-preserved : goal.loop-layer-preserved
loop-layer-preserved c =
    let layers = map arc_value c.args.layers.now in
    let n = c.loop-layer.layer-index in
    let layer = c.index-in-loop-layer.result.now in
    let is : layer ≡ get_or layers n [] = layer_is arc_value c.args.layers.now n c.layer-item.result layer (omega arith) c.layer-item.is (c.index-in-loop-layer.ensures ∙ c.deref-in-loop-layer.ensures) in
    let there = layer_in arc_value c.args.layers.now n (omega arith) in
    let same : c.index.result.now ≡ layer = c.index.ensures ∙ c.deref.ensures ∙ sym (c.index-in-loop-layer.ensures ∙ c.deref-in-loop-layer.ensures) in
    record {
      first = first_next c.args.labels.now layers n layer there is c.loop-layer.invariant.none c.loop-layer.first c.loop-layer.invariant.first c.count-first.result c.count-first.ensures.value;
      none = none_next c.args.labels.now layers n layer there is c.loop-layer.invariant.none c.loop-layer.first c.loop-layer.invariant.first
          (ap (id_of c.args.labels.now) (sym same) ∙ sym c.find.ensures ∙ c.in_default.is);
    }

pub returns : goal.returns
returns c =
    sym (ap (id_of c.args.labels.now) (sym (joined_upto arc_value c.args.layers.now c.loop-layer.layer-index (omega arith))) ∙ c.loop-layer.invariant.none)
