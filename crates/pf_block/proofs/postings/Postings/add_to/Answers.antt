use Rattle.std.proofs.Common.{◌≡◌, ◌+◌, ◌++◌, ◌<◌, ◌^◌, [], length, map, take, get_or, sym, ap, ◌∙◌, subst, arith, append_assoc}
use Rattle.std.specs.Arc.{arc_value}
use Rattle.std.specs.List.{All}
use Rattle.pf_block.specs.IndexStacks.{joined}
use Rattle.pf_block.specs.SeriesIds.{ids_from, ids_with}
use Rattle.pf_block.proofs.Joining.{ids_next, ids_within, joined_upto, layer_in, layer_is, length_next, length_part}
use Rattle.pf_block.proofs.postings.Postings.add_to.Goals as goal

pub add-requires-in-loop-layer : goal.add-requires-in-loop-layer
add-requires-in-loop-layer c =
    let q = c.self.inside.name.now in
    let r = c.self.inside.value.now in
    let layers = map arc_value c.self.inside.more.now in
    let n = c.loop-layer.layer-index in
    let layer = c.index.result.now in
    let is : layer ≡ get_or layers n [] = layer_is arc_value c.self.inside.more.now n c.layer-item.result layer (omega arith) c.layer-item.is (c.index.ensures ∙ c.deref.ensures) in
    let there = layer_in arc_value c.self.inside.more.now n (omega arith) in
    let p = length_part n layers layer there is in
    let b = c.loop-layer.invariant.behind in
    λ k d l.
    let w = subst (All (λ id. id < length layer)) (sym c.postings.ensures) (ids_within q r layer) k d l in
    omega (arith, p, b, w, c.self.invariant.few)

pub overflow_add-behind : goal.overflow_add-behind
overflow_add-behind c =
    let q = c.self.inside.name.now in
    let r = c.self.inside.value.now in
    let layers = map arc_value c.self.inside.more.now in
    let n = c.loop-layer.layer-index in
    let layer = c.index-in-loop-layer.result.now in
    let is : layer ≡ get_or layers n [] = layer_is arc_value c.self.inside.more.now n c.layer-item.result layer (omega arith) c.layer-item.is (c.index-in-loop-layer.ensures ∙ c.deref-in-loop-layer.ensures) in
    let there = layer_in arc_value c.self.inside.more.now n (omega arith) in
    let p = length_part n layers layer there is in
    let b = c.loop-layer.invariant.behind in
    omega (arith, p, b, c.count-behind.ensures.value, c.self.invariant.few)

pub loop-layer-preserved : goal.loop-layer-preserved
loop-layer-preserved c =
    let q = c.self.inside.name.now in
    let r = c.self.inside.value.now in
    let layers = map arc_value c.self.inside.more.now in
    let n = c.loop-layer.layer-index in
    let layer = c.index.result.now in
    let is : layer ≡ get_or layers n [] = layer_is arc_value c.self.inside.more.now n c.layer-item.result layer (omega arith) c.layer-item.is (c.index.ensures ∙ c.deref.ensures) in
    let there = layer_in arc_value c.self.inside.more.now n (omega arith) in
    let m = length_next n layers layer there is in
    let b = c.loop-layer.invariant.behind in
    let same : c.count-behind.result ≡ length layer = c.count-behind.ensures.value ∙ ap length (c.index-in-loop-layer.ensures ∙ c.deref-in-loop-layer.ensures ∙ sym (c.index.ensures ∙ c.deref.ensures)) in
    record {
      behind = omega (arith, m, b, same);
      ids =
          c.in_ok-add-2.ensures
          ∙ (λ i. c.loop-layer.invariant.ids i ++ map (λ id. b i + id) (c.postings.ensures i))
          ∙ append_assoc (c.args.ids.now.items ++ map (λ id. c.self.inside.first + id) c.self.inside.rest.now) (ids_from c.self.inside.behind q r (joined (take n layers))) (map (λ id. (c.self.inside.behind + length (joined (take n layers))) + id) (ids_with q r layer))
          ∙ ap (λ x. (c.args.ids.now.items ++ map (λ id. c.self.inside.first + id) c.self.inside.rest.now) ++ x) (sym (ids_next q r c.self.inside.behind n layers layer there is));
    }

pub returns : goal.returns
returns c =
    let q = c.self.inside.name.now in
    let r = c.self.inside.value.now in
    c.loop-layer.invariant.ids
    ∙ ap (λ x. (c.args.ids.now.items ++ map (λ id. c.self.inside.first + id) c.self.inside.rest.now) ++ ids_from c.self.inside.behind q r x) (joined_upto arc_value c.self.inside.more.now c.loop-layer.layer-index (omega arith))
    ∙ append_assoc c.args.ids.now.items (map (λ id. c.self.inside.first + id) c.self.inside.rest.now) (ids_from c.self.inside.behind q r (joined (map arc_value c.self.inside.more.now)))
    ∙ ap (λ x. c.args.ids.now.items ++ x) c.self.view_is
