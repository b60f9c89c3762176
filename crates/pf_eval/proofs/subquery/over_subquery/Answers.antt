use Rattle.std.proofs.Common.{sym, ap, ◌∙◌, ◌∷◌, []}
use Rattle.std.specs.Prelude.{pos, ◌-ℤ◌}
use Rattle.pf_model.specs.Evaluation.{moments, multiples, subquery_over}
use Rattle.pf_model.specs.Outcomes.{range_call}
use Rattle.pf_selectors.specs.Subqueries.{moment_cell}
use Rattle.pf_selectors.specs.Times.{time_at}
use Rattle.pf_eval.proofs.subquery.over_subquery.Goals as goal

pub returns-clause-value : goal.returns-clause-value
returns-clause-value c = λ o same k h.
    let read = c.args.run.now.read in
    let t = time_at read k in
    c.in_ok-found.ensures o (λ j l. ap moment_cell (sym (same j l)) ∙ sym (c.moments_of-moments.ensures j)) k h
    ∙ ap (λ absent. range_call c.args.f absent (subquery_over (t -ℤ pos c.args.range) t (moments o (multiples c.args.resolution (t -ℤ pos c.args.range) t)) ∷ []))
    c.in_ok-absent.ensures
