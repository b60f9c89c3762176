use Rattle.std.proofs.Common.{rules, ◌≡◌, ◌∙◌, ◌*◌, ap, arith, length, vec_len}
use Rattle.std.specs.Arc.{arc_value}
use Rattle.pf_extent.specs.Done.{steps_in}
use Rattle.pf_query.specs.Works.{legs_in}
use Rattle.pf_query.proofs.Moving.{empty_length, empty_next, work_is}
use Rattle.pf_query.proofs.work.Work.new.Goals as goal

pub loop-job-preserved : goal.loop-job-preserved
loop-job-preserved c = empty_next c.loop-job._job c.loop-job.slots.items c.push.new.self.items c.loop-job.invariant c.in_ok-push.ensures.items

pub invariant_of-result : goal.invariant_of-result
invariant_of-result c =
    let i = ap length c.loop-job.invariant ∙ empty_length c.loop-job._job in
    let t = c.loop-job-test.false in
    let a = c.loop-job.auto._job-end in
    let k = c.in_ok-with_capacity.ensures.capacity in record {
      legs_are = search rules;
      runs_are = search rules;
      parts_are = c.in_ok-with_capacity.ensures.items;
      room = omega (arith, i, a, k);
    }

pub returns : goal.returns
returns c =
    let a = c.loop-job.auto._job-end in
    let t = c.loop-job-test.false in
    let n = c.leg_count.ensures.value in
    let d = c.deref-2.ensures in
    let v : vec_len c.args.runs ≡ length c.args.runs.items = search rules in
    let l = c.len.ensures ∙ v in
    work_is (arc_value c.args.legs) c.args.runs.items c.args.cached.items c.args.offered c.count_steps-count.result c.loop-job.slots.items c.loop-job._job
    (c.count_steps-count.ensures ∙ ap steps_in c.deref.ensures.value) c.loop-job.invariant
    (omega (arith, a, t) ∙ ap (λ n. n * c.leg_count.result) l ∙ ap (λ n. length c.args.runs.items * n) (n ∙ ap legs_in d))
