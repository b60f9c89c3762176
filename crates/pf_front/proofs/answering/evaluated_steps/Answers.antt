-- How many steps are left of those that were cached.
use Rattle.std.proofs.Common.{rules, ◌≡◌, length, arith}
use Rattle.pf_base.specs.Grids.{points}
use Rattle.pf_front.proofs.Settled.{cached_within}
use Rattle.pf_front.proofs.answering.evaluated_steps.Goals as goal

pub overflow_sub-result : goal.overflow_sub-result
overflow_sub-result c =
    let few = cached_within c.args.core.now c.args.query c.in-Some.opened c.in-Some.ensures.found c.in-Some.ensures.stands in
    let all : length (points c.in-Some.ensures.found.opened.asked.query.grid) ≡ c.len.result = search rules in
    omega (arith, few, all)
