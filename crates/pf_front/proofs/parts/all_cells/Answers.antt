-- One run more.
use Rattle.std.proofs.Common.{ℕ, drop, take, ap, ◌∙◌}
use Rattle.pf_front.proofs.Merged.{merged_fails, merged_more}
use Rattle.pf_front.proofs.parts.all_cells.Goals as goal

pub returns-in-Err-clause-values : goal.returns-in-Err-clause-values
returns-in-Err-clause-values c =
    let values = rw c.in-Err.is at c.in_ok-done.ensures.values in
    merged_fails c.args.legs.now c.args.runs.now c.args.parts.items c.loop-run.left.items c.in_ok-own.own.items c.next_parts.new.left.items c.loop-run.found.items
    c.loop-run.run-index c.run-item.result c.loop-run.invariant c.loop-run-test.true c.run-item.is
    (c.in_ok-own.ensures.parts ∙ ap (λ (n : ℕ). take n c.loop-run.left.items) c.leg_count-count.ensures.value)
    (record { time = c.in-Err.failed.time; kind = c.in-Err.failed.kind }) values

pub loop-run-preserved : goal.loop-run-preserved
loop-run-preserved c =
    let whole = rw c.in-Ok.is at c.in_ok-done.ensures.whole in
    let values = rw c.in-Ok.is at c.in_ok-done.ensures.values in
    merged_more c.args.legs.now c.args.runs.now c.args.parts.items c.loop-run.left.items c.in_ok-own.own.items c.next_parts.new.left.items c.loop-run.found.items
    c.loop-run.run-index c.run-item.result c.loop-run.invariant c.loop-run-test.true c.run-item.is
    (c.in_ok-own.ensures.parts ∙ ap (λ (n : ℕ). take n c.loop-run.left.items) c.leg_count-count.ensures.value) c.in-Ok.done c.push.new.self.items
    (c.in_ok-own.ensures.left ∙ ap (λ (n : ℕ). drop n c.loop-run.left.items) c.leg_count-count.ensures.value) whole.0 whole.1 c.in_ok-push-in-Ok.ensures.items values

pub returns-clause-values : goal.returns-clause-values
returns-clause-values c = λ samples all. (c.loop-run.invariant.values samples all).0
