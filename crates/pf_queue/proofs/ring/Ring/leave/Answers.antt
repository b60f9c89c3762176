use Rattle.std.proofs.Common.{◌≡◌, ◌∙◌, true, sym}
use Rattle.pf_queue.specs.Rings.{waits}
use Rattle.pf_queue.proofs.Rings.{left, none_out, taken_out}
use Rattle.pf_queue.proofs.ring.Ring.leave.Goals as goal

pub invariant_of-self : goal.invariant_of-self
invariant_of-self c =
    let inside : waits c.args.tenant c.args.self.now.waiting ≡ true = sym c.contains.ensures.value ∙ c.if-contains.true in
    (taken_out _ _ _ c.self.invariant _ c.self.view_is _ _ _ inside c.unlink.ensures.next c.unlink.ensures.previous).0

pub returns-then-contains-clause-waiting : goal.returns-then-contains-clause-waiting
returns-then-contains-clause-waiting c =
    let inside : waits c.args.tenant c.args.self.now.waiting ≡ true = sym c.contains.ensures.value ∙ c.if-contains.true in
    (taken_out _ _ _ c.self.invariant _ c.self.view_is _ _ _ inside c.unlink.ensures.next c.unlink.ensures.previous).1

pub returns-then-contains-clause-gone : goal.returns-then-contains-clause-gone
returns-then-contains-clause-gone c =
    let inside : waits c.args.tenant c.args.self.now.waiting ≡ true = sym c.contains.ensures.value ∙ c.if-contains.true in
    left c.unlink.new.next.items c.self.inside.end c.args.tenant c.args.self.now
    (taken_out _ _ _ c.self.invariant _ c.self.view_is _ _ _ inside c.unlink.ensures.next c.unlink.ensures.previous).1

pub returns-else-contains-clause-waiting : goal.returns-else-contains-clause-waiting
returns-else-contains-clause-waiting c = none_out c.args.self.now c.args.tenant _ c.if-contains.false c.contains.ensures.value
