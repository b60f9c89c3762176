use Rattle.std.proofs.Common.{◌≡◌, subst, ◌-ℤ◌, pos, ap, ◌∙◌, ◌∷◌, []}
use Rattle.pf_columns.specs.Columns.{AreRising, columns_labels}
use Rattle.pf_columns.specs.Steps.{StepsData, unless_bad}
use Rattle.pf_model.specs.Cells.{cell_of}
use Rattle.pf_model.specs.Evaluation.{moments, subquery_over}
use Rattle.pf_model.specs.Outcomes.{of_cell, of_series, range_call}
use Rattle.pf_selectors.specs.Subqueries.{bad_over, column_series}
use Rattle.pf_selectors.specs.Times.{time_at}
use Rattle.pf_selectors.proofs.SubqueryCells.{call_is}
use Rattle.pf_selectors.proofs.moments.over_moments.Goals as goal

pub returns : goal.returns
returns c = λ o says k h.
    let times = c.args.times.now in
    let from = time_at times k -ℤ pos c.args.range in
    let to = time_at times k in
    let m = c.args.moments.now in
    let bads : c.deref.result.now ≡ m.bads = c.deref.ensures.value ∙ ap (λ (d : StepsData). d.bads) c.moments.view_is in
    let columns : c.deref-2.result.now ≡ m.columns = c.deref-2.ensures.value ∙ ap (λ (d : StepsData). d.columns) c.moments.view_is in
    let rising : AreRising (columns_labels m.columns) = subst (λ (d : StepsData). AreRising (columns_labels d.columns)) c.moments.view_is c.moments.invariant in
    ap of_cell
    (c.in_ok-found.ensures.steps k h
    ∙ (λ i. unless_bad (c.in_ok-bads.ensures k h i) (cell_of (c.in_ok-columns.ensures k h i)))
    ∙ (λ i. unless_bad (bad_over c.args.range c.args.at.now times (bads i) k) (cell_of (of_series c.args.f c.args.absent.now from to (column_series c.args.range c.args.at.now times (columns i) k)))))
    ∙ call_is c.args.f c.args.absent.now c.args.range c.args.at.now times m o k rising says
    ∙ ap (λ us. range_call c.args.f c.args.absent.now (subquery_over from to (moments o us) ∷ [])) (c.requires.multiples.windows k h)
