use Rattle.pf_queue.proofs.Rings.{put_last}
use Rattle.pf_queue.proofs.ring.Ring.add.Goals as goal

pub invariant_of-self : goal.invariant_of-self
invariant_of-self c =
    (put_last _ _ _ c.self.invariant _ c.self.view_is _ _ _ c.requires c.link_last.ensures.next c.link_last.ensures.previous).0

pub returns-clause-waiting : goal.returns-clause-waiting
returns-clause-waiting c =
    (put_last _ _ _ c.self.invariant _ c.self.view_is _ _ _ c.requires c.link_last.ensures.next c.link_last.ensures.previous).1
