use Rattle.std.proofs.Common.{◌++◌, ◌∷◌, [], ap, ◌∙◌}
use Rattle.pf_join.specs.KeyedElements.{key_of}
use Rattle.pf_math.proofs.Joining.{mapped_next}
use Rattle.pf_join.proofs.matching.keys_of.Goals as goal

pub loop-entry-preserved : goal.loop-entry-preserved
loop-entry-preserved c =
    mapped_next key_of c.loop-entry.found.items c.push.new.self.items c.args.entries.now c.loop-entry.entry-index c.entry-item.result
    c.loop-entry-test.true c.entry-item.is
    (c.in_ok-push.ensures.items ∙ ap (λ y. c.loop-entry.found.items ++ y ∷ []) c.in_ok-clone.ensures)
    c.loop-entry.invariant
