use Rattle.std.proofs.Common.{◌++◌, ◌∷◌, [], map, sym, ap, ◌∙◌, arith}
use Rattle.std.specs.Arc.{arc_value}
use Rattle.std.proofs.lemmas.List.{append-nil, map_push}
use Rattle.pf_block.specs.IndexStacks.{joined}
use Rattle.pf_block.proofs.Joining.{joined_append, joined_upto, layers_push}
use Rattle.pf_block.proofs.index_stack.on_first.Goals as goal

pub loop-layer-preserved : goal.loop-layer-preserved
loop-layer-preserved c =
    layers_push arc_value c.args.layers.now c.loop-layer.stack.items c.push.new.self.items c.loop-layer.layer-index c.in_ok-try_clone.field-0 c.layer-item.result
    c.in_ok-push.ensures.items c.loop-layer.invariant c.in_ok-try_clone.ensures c.layer-item.is (omega arith)

pub returns : goal.returns
returns c =
    let top = arc_value c.in_ok-new.field-0 in
    ap (λ x. joined (map arc_value x)) c.in_ok-push-2.ensures.items ∙ ap joined (map_push arc_value c.loop-layer.stack.items c.in_ok-new.field-0)
    ∙ joined_append (map arc_value c.loop-layer.stack.items) (top ∷ [])
    ∙ ap (λ x. joined x ++ joined (top ∷ [])) c.loop-layer.invariant
    ∙ ap (λ x. x ++ joined (top ∷ [])) (joined_upto arc_value c.args.layers.now c.loop-layer.layer-index (omega arith))
    ∙ ap (λ x. joined (map arc_value c.args.layers.now) ++ x) (append-nil top ∙ c.in_ok-new.ensures.ok ∙ c.in_ok-of.ensures)
