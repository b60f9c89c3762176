use Rattle.std.proofs.Common.{subst, sym, ap, ◌∙◌}
use Rattle.pf_base.specs.Grids.{points}
use Rattle.pf_model.specs.Direct.{gather, gathered}
use Rattle.pf_model.specs.Trees.{tree_of}
use Rattle.pf_columns.specs.Columns.{cells_from, timed}
use Rattle.pf_columns.specs.Steps.{IsFirstBad, NoneBad}
use Rattle.pf_eval.proofs.Answered.{grid_failed, grid_gathered, same_failure}
use Rattle.pf_eval.proofs.bound.eval_bound.Goals as goal

pub returns-in-Some-clause-failure : goal.returns-in-Some-clause-failure
returns-in-Some-clause-failure c =
    let s = c.in_ok-steps.steps in
    let bad = c.in-Some.bad in
    λ samples stands apart step kind e.
    same_failure _ c.at.result step bad.kind kind
    (grid_failed samples (tree_of c.args.expr.now) s c.args.grid.now (c.in_ok-steps.ensures samples stands apart) bad c.at.result
    (subst (λ n. IsFirstBad s.bads n bad) c.len.ensures.value c.in-Some.ensures) c.at.ensures.point)
    e

pub returns-clause-answer : goal.returns-clause-answer
returns-clause-answer c =
    let s = c.in_ok-steps.steps in
    let ts = points c.args.grid.now in
    λ samples stands apart.
    grid_gathered samples (tree_of c.args.expr.now) s c.args.grid.now (c.in_ok-steps.ensures samples stands apart)
    (subst (NoneBad s.bads) c.len.ensures.value c.in_default.ensures)
    ∙ ap gathered (sym (c.in_ok-gather.ensures
    ∙ ap (λ xs. gather (timed ts xs)) (c.in_ok-cells.ensures ∙ ap (cells_from s.columns 0) c.len-2.ensures.value)))
