use Rattle.std.proofs.Common.{◌≡◌, ◌∙◌, rules, refl}
use Rattle.std.specs.Arc.{arc_value}
use Rattle.std.specs.Prelude.{◌||◌}
use Rattle.pf_query.specs.Jobs.{is_empty}
use Rattle.pf_core.proofs.Planning.{once_else, once_then, plan_few, plan_few_runs, plan_outstanding, plans, plans_state, unplans}
use Rattle.pf_core.proofs.state.State.plan_over.Goals as goal
use Rattle.pf_core.proofs.state.State.plan_over.Goals.{else-instant, then-instant}

pub plan-requires-clause-outstanding : goal.plan-requires-clause-outstanding
plan-requires-clause-outstanding c =
    plan_outstanding c.args.self.now c.args.query (arc_value c.args.legs) (arc_value c.args.snap.now) c.requires.state c.requires.legs

pub plan-requires-clause-few : goal.plan-requires-clause-few
plan-requires-clause-few c =
    plan_few_runs c.args.self.now c.args.query (arc_value c.args.legs) (arc_value c.args.snap.now) c.args.found c.args.instant c.requires.legs c.requires.divided

pub plan-requires-clause-few_cached : goal.plan-requires-clause-few_cached
plan-requires-clause-few_cached c =
    plan_few c.args.self.now c.args.query (arc_value c.args.legs) (arc_value c.args.snap.now) c.args.found c.args.instant c.requires.legs c.requires.divided

pub returns-clause-state : goal.returns-clause-state
returns-clause-state c =
    let once : c.if-instant.offered ≡ (c.args.instant || is_empty c.args.found.runs.items) = elim c.if-instant.branch [
      | then-instant w ↦ once_then c.args.instant c.if-instant.offered _ w.if-instant.true (w.offered-is ∙ w.if-instant.true)
      | else-instant w ↦ once_else c.args.instant c.if-instant.offered w.is_empty-offered.result _ w.if-instant.false w.offered-is (search rules)
    ] in
    plans_state c.args.self.now _ c.args.query (arc_value c.args.legs) (arc_value c.args.snap.now) c.args.found c.args.instant _ _ c.requires.state
    (record { limits = refl; tenants = refl; queries = refl; reserved = refl; journal = refl }) (record { results = refl; failed = refl; total = refl })
    c.plan.ensures.table c.requires.legs c.requires.divided once c.plan.ensures.ok c.plan.ensures.err

pub returns-clause-ok : goal.returns-clause-ok
returns-clause-ok c =
    let once : c.if-instant.offered ≡ (c.args.instant || is_empty c.args.found.runs.items) = elim c.if-instant.branch [
      | then-instant w ↦ once_then c.args.instant c.if-instant.offered _ w.if-instant.true (w.offered-is ∙ w.if-instant.true)
      | else-instant w ↦ once_else c.args.instant c.if-instant.offered w.is_empty-offered.result _ w.if-instant.false w.offered-is (search rules)
    ] in
    plans c.args.self.now _ c.args.query (arc_value c.args.legs) (arc_value c.args.snap.now) c.args.found c.args.instant _ _ c.requires.state
    (record { limits = refl; tenants = refl; queries = refl; reserved = refl; journal = refl }) (record { results = refl; failed = refl; total = refl })
    c.plan.ensures.table c.requires.legs c.requires.divided once c.plan.ensures.ok c.plan.ensures.cached

pub returns-clause-err : goal.returns-clause-err
returns-clause-err c =
    unplans c.args.self.now _ c.args.query _ c.requires.state
    (record { limits = refl; tenants = refl; queries = refl; reserved = refl; journal = refl }) (record { results = refl; failed = refl; total = refl }) c.plan.ensures.err
