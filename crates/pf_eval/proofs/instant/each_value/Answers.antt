use Rattle.std.proofs.Common.{ap, ◌∙◌}
use Rattle.pf_math.specs.EachValue.{value_by}
use Rattle.pf_selectors.specs.Times.{time_at}
use Rattle.pf_eval.specs.Calls.{change_at, scalars_at}
use Rattle.pf_eval.proofs.InstantSteps.{each_value_step}
use Rattle.pf_eval.proofs.instant.each_value.Goals as goal

pub returns-clause-value : goal.returns-clause-value
returns-clause-value c =
    let f = c.args.f in
    let a = c.args.args in
    λ absent k h. each_value_step f absent (time_at c.args.times.now k) a k c.in_ok-found.found (change_at c.in_ok-changes.changes k) c.in_ok-columns.columns.items
    c.requires.function (c.in_ok-found.ensures.steps k h) (c.in_ok-columns.ensures k)
    (λ v. c.in_ok-changes.ensures k h v ∙ ap (λ ss. value_by f (scalars_at ss k) (time_at c.args.times.now k) v) c.deref.ensures.value)
