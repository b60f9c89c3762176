use Rattle.std.proofs.Common.{◌++◌, ◌∷◌, [], ap, ◌∙◌}
use Rattle.pf_math.proofs.Joining.{mapped_next}
use Rattle.pf_join.proofs.matching.labels_of.Goals as goal

pub loop-joined-preserved : goal.loop-joined-preserved
loop-joined-preserved c =
    mapped_next (λ j. j.labels) c.loop-joined.found.items c.push.new.self.items c.args.results.now c.loop-joined.joined-index c.joined-item.result
    c.loop-joined-test.true c.joined-item.is
    (c.in_ok-push.ensures.items ∙ ap (λ y. c.loop-joined.found.items ++ y ∷ []) c.in_ok-clone.ensures)
    c.loop-joined.invariant
