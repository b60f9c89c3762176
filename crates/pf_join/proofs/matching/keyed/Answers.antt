use Rattle.std.proofs.Common.{◌++◌, ◌∷◌, [], ap, ◌∙◌}
use Rattle.pf_join.specs.KeyedElements.{keyed_of}
use Rattle.pf_math.proofs.Joining.{mapped_next}
use Rattle.pf_join.proofs.matching.keyed.Goals as goal

pub loop-element-preserved : goal.loop-element-preserved
loop-element-preserved c =
    mapped_next (keyed_of c.args.matching.now) c.loop-element.found.items c.push.new.self.items c.args.elements.now c.loop-element.element-index c.element-item.result
    c.loop-element-test.true c.element-item.is
    (c.in_ok-push.ensures.items ∙ ap (λ y. c.loop-element.found.items ++ y ∷ []) c.in_ok-keyed_of.ensures)
    c.loop-element.invariant
