use Rattle.std.proofs.Common.{◌≡◌, arith}
use Rattle.std.proofs.lemmas.Grind.{common_steps}
use Rattle.pf_queue.specs.Links.{at}
use Rattle.pf_queue.proofs.Rings.{contained}
use Rattle.pf_queue.proofs.ring.Ring.contains.Goals as goal

pub returns-then-tenant-self-clause-value : goal.returns-then-tenant-self-clause-value
returns-then-tenant-self-clause-value c =
    let place : c.index.result.now ≡ at c.self.inside.next.items c.args.tenant =
    grind (arith, common_steps, c.index.ensures, c.self.invariant.next_length, c.if-tenant-self.true) in
    contained _ _ _ c.self.invariant _ c.self.view_is _ _ c.if-tenant-self.true place
