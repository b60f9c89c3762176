-- What is told once no job of the query waits.
use Rattle.std.proofs.Common.{◌≡◌, false, arith}
use Rattle.pf_front.proofs.Settled.{worked_off}
use Rattle.pf_front.specs.Settling.{some_waits}
use Rattle.pf_front.proofs.answering.work_all.Goals as goal

pub returns-then-not-waits-clause-told : goal.returns-then-not-waits-clause-told
returns-then-not-waits-clause-told g c =
    let none : some_waits c.in-Some.told ≡ false = grind (arith, c.waits.ensures, c.if-not-waits.true) in
    worked_off _ _ c.args.core.now c.loop-told.core c.args.query c.in-Some.told c.collect.new.self c.loop-told.invariant.works c.loop-told.invariant.begun none
    c.in-Some.ensures.collected
