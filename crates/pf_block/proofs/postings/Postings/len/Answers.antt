use Rattle.std.proofs.Common.{◌≡◌, ◌+◌, ◌++◌, [], length, map, take, get_or, sym, ap, ◌∙◌, arith}
use Rattle.std.specs.Arc.{arc_value}
use Rattle.std.proofs.lemmas.List.{length-append, length-map}
use Rattle.pf_block.specs.IndexStacks.{joined}
use Rattle.pf_block.specs.SeriesIds.{ids_from, ids_with}
use Rattle.pf_block.proofs.Joining.{count_next, ids_counted, ids_few, joined_upto, layer_in, layer_is, length_part}
use Rattle.pf_block.proofs.postings.Postings.len.Goals as goal

pub overflow_add-count : goal.overflow_add-count
overflow_add-count c =
    let q = c.self.inside.name.now in
    let r = c.self.inside.value.now in
    let layers = map arc_value c.self.inside.more.now in
    let n = c.loop-layer.layer-index in
    let layer = c.index.result.now in
    let is : layer ≡ get_or layers n [] = layer_is arc_value c.self.inside.more.now n c.layer-item.result layer (omega arith) c.layer-item.is (c.index.ensures ∙ c.deref.ensures) in
    let there = layer_in arc_value c.self.inside.more.now n (omega arith) in
    let m = ids_few 0 q r (joined (take n layers)) in
    let k = ids_few 0 q r layer in
    let g = ap length c.postings.ensures in
    let p = length_part n layers layer there is in
    let i = c.loop-layer.invariant in
    omega (arith, m, k, g, p, i, c.self.invariant.count)

pub loop-layer-preserved : goal.loop-layer-preserved
loop-layer-preserved c =
    let q = c.self.inside.name.now in
    let r = c.self.inside.value.now in
    let layers = map arc_value c.self.inside.more.now in
    let n = c.loop-layer.layer-index in
    let layer = c.index.result.now in
    let is : layer ≡ get_or layers n [] = layer_is arc_value c.self.inside.more.now n c.layer-item.result layer (omega arith) c.layer-item.is (c.index.ensures ∙ c.deref.ensures) in
    let there = layer_in arc_value c.self.inside.more.now n (omega arith) in
    let m = count_next q r n layers layer there is in
    let g = ap length c.postings.ensures in
    let i = c.loop-layer.invariant in
    omega (arith, m, g, i)

pub returns : goal.returns
returns c =
    let q = c.self.inside.name.now in
    let r = c.self.inside.value.now in
    let layers = map arc_value c.self.inside.more.now in
    let rest = map (λ id. c.self.inside.first + id) c.self.inside.rest.now in
    c.loop-layer.invariant
    ∙ ap (λ x. length c.self.inside.rest.now + length (ids_with q r x)) (joined_upto arc_value c.self.inside.more.now c.loop-layer.layer-index (omega arith))
    ∙ (λ i. sym (length-map c.self.inside.rest.now (λ id. c.self.inside.first + id)) i + sym (ids_counted q r c.self.inside.behind (joined layers)) i)
    ∙ sym (length-append rest (ids_from c.self.inside.behind q r (joined layers)))
    ∙ ap length c.self.view_is
