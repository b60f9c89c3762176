use Rattle.std.proofs.Common.{◌≡◌, ◌∙◌, ap, arith}
use Rattle.std.proofs.lemmas.Grind.{common_steps}
use Rattle.pf_queue.specs.Links.{at}
use Rattle.pf_queue.proofs.Rings.{first_known, free_again, taken_out}
use Rattle.pf_queue.proofs.ring.Ring.take.Goals as goal

place : (c : goal.After-unlink) → c.index-first.result.now ≡ at c.self.inside.next.items c.self.inside.end
place c = grind (arith, common_steps, c.index-first.ensures, c.self.invariant.next_length)

pub invariant_of-self : goal.invariant_of-self
invariant_of-self c =
    let first = first_known _ _ _ c.self.invariant _ c.self.view_is _ (place c) c.if-first-self.false in
    (taken_out _ _ _ c.self.invariant _ c.self.view_is _ _ _ first.0 c.unlink.ensures.next c.unlink.ensures.previous).0

pub returns-clause-others : goal.returns-clause-others
returns-clause-others c =
    let first = first_known _ _ _ c.self.invariant _ c.self.view_is _ (place c) c.if-first-self.false in
    (taken_out _ _ _ c.self.invariant _ c.self.view_is _ _ _ first.0 c.unlink.ensures.next c.unlink.ensures.previous).1 ∙ first.1

pub returns-clause-free : goal.returns-clause-free
returns-clause-free c =
    let first = first_known _ _ _ c.self.invariant _ c.self.view_is _ (place c) c.if-first-self.false in
    free_again c.unlink.new.next.items c.self.inside.end c.index-first.result.now c.args.self.now (ap (λ r. r.capacity) c.self.view_is) first.2
    (taken_out _ _ _ c.self.invariant _ c.self.view_is _ _ _ first.0 c.unlink.ensures.next c.unlink.ensures.previous).1
