use Rattle.std.proofs.Common.{◌+◌, ◌≤◌, arith}
use Rattle.std.proofs.lemmas.Grind.{common_steps}
use Rattle.pf_extent.proofs.Multiples.{is_near}
use Rattle.pf_extent.proofs.list.with_back.Goals as goal

pub overflow_add-last : goal.overflow_add-last
overflow_add-last c =
    let e = c.args.extent.now in
    let near : c.args.last + e.step ≤ e.last = is_near e.step c.args.last e.last c.requires.1 c.requires.0.last c.if-last-extent-2.true in
    omega (arith, near)

pub returns : goal.returns
returns c = grind (arith, common_steps)
