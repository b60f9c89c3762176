use Rattle.std.proofs.Common.{◌≡◌, ◌++◌, true, [], map, get_or, sym, ap, ◌∙◌, subst, arith}
use Rattle.std.specs.Arc.{arc_value}
use Rattle.pf_block.specs.IndexStacks.{joined}
use Rattle.pf_block.specs.Snaps.{are_apart}
use Rattle.pf_block.proofs.Joining.{apart_taken, joined_upto, layer_in, layer_is, taken_next}
use Rattle.pf_block.proofs.index_stack.merged.Goals as goal

pub with_all-requires : goal.with_all-requires
with_all-requires c =
    let first = c.in_ok-index.index in
    let whole : joined (map arc_value c.args.layers.now) ≡ first ++ joined (map arc_value c.in-Some.newer.now) =
    ap (λ x. joined (map arc_value x)) c.in-Some.ensures.cases.0 ∙ ap (λ x. x ++ joined (map arc_value c.in-Some.newer.now)) (sym (c.in_ok-index.ensures ∙ c.index.ensures ∙ c.deref.ensures)) in
    let others = map arc_value c.in-Some.newer.now in
    let n = c.loop-layer.layer-index in
    let layer = c.index-in-loop-layer.result.now in
    let is : layer ≡ get_or others n [] = layer_is arc_value c.in-Some.newer.now n c.layer-item.result layer (omega arith) c.layer-item.is (c.index-in-loop-layer.ensures ∙ c.deref-in-loop-layer.ensures) in
    let there = layer_in arc_value c.in-Some.newer.now n (omega arith) in
    subst (λ x. are_apart (x ++ layer) ≡ true) (sym c.loop-layer.invariant) (apart_taken first c.args.top others n layer there is (subst (λ x. are_apart (x ++ c.args.top) ≡ true) whole c.requires))

pub loop-layer-preserved : goal.loop-layer-preserved
loop-layer-preserved c =
    let others = map arc_value c.in-Some.newer.now in
    let n = c.loop-layer.layer-index in
    let layer = c.index-in-loop-layer.result.now in
    let is : layer ≡ get_or others n [] = layer_is arc_value c.in-Some.newer.now n c.layer-item.result layer (omega arith) c.layer-item.is (c.index-in-loop-layer.ensures ∙ c.deref-in-loop-layer.ensures) in
    let there = layer_in arc_value c.in-Some.newer.now n (omega arith) in
    taken_next c.in_ok-index.index c.args.top others n layer c.in_ok-index-2.index c.loop-layer.index there is c.loop-layer.invariant c.in_ok-index-2.ensures

pub with_all-requires-2 : goal.with_all-requires-2
with_all-requires-2 c =
    let first = c.in_ok-index.index in
    let whole : joined (map arc_value c.args.layers.now) ≡ first ++ joined (map arc_value c.in-Some.newer.now) =
    ap (λ x. joined (map arc_value x)) c.in-Some.ensures.cases.0 ∙ ap (λ x. x ++ joined (map arc_value c.in-Some.newer.now)) (sym (c.in_ok-index.ensures ∙ c.index.ensures ∙ c.deref.ensures)) in
    let all = joined_upto arc_value c.in-Some.newer.now c.loop-layer.layer-index (omega arith) in
    subst (λ x. are_apart (x ++ c.args.top) ≡ true) (whole ∙ ap (λ x. first ++ x) (sym all) ∙ sym c.loop-layer.invariant) c.requires

pub returns : goal.returns
returns c =
    let first = c.in_ok-index.index in
    let whole : joined (map arc_value c.args.layers.now) ≡ first ++ joined (map arc_value c.in-Some.newer.now) =
    ap (λ x. joined (map arc_value x)) c.in-Some.ensures.cases.0 ∙ ap (λ x. x ++ joined (map arc_value c.in-Some.newer.now)) (sym (c.in_ok-index.ensures ∙ c.index.ensures ∙ c.deref.ensures)) in
    let all = joined_upto arc_value c.in-Some.newer.now c.loop-layer.layer-index (omega arith) in
    c.in_ok-all.ensures ∙ ap (λ x. x ++ c.args.top) (c.loop-layer.invariant ∙ ap (λ x. first ++ x) all ∙ sym whole)
