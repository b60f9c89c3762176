use Rattle.std.proofs.Common.{◌≡◌, ℕ, ℤ, Option, [], map, ap, ◌∙◌}
use Rattle.pf_model.specs.Cells.{cell_of}
use Rattle.pf_model.specs.Outcomes.{of_cell}
use Rattle.pf_columns.specs.Columns.{cell_at, value_in}
use Rattle.pf_columns.specs.Steps.{bad_in, unless_bad}
use Rattle.pf_eval.specs.Nodes.{applied, changed, labelled}
use Rattle.pf_eval.specs.declared.change.Change.TheVariants as change
use Rattle.pf_eval.proofs.Changes.{changed_cell, negated_step}
use Rattle.pf_eval.proofs.change.negated_steps.Goals as goal

pub returns : goal.returns
returns c =
    let ch = change.Negation in
    let f : ℕ → ℤ → Option ℤ = λ j. applied ch (value_in [] j) in
    let cs = c.args.steps.columns in
    let cols : c.in_ok-columns.columns.items ≡ map (changed (labelled ch) f c.args.len) cs =
    c.in_ok-columns.ensures ∙ ap (map (changed (labelled ch) f c.args.len)) (c.deref.ensures.value ∙ ap (λ d. d.columns) c.steps.view_is) in
    let b : c.steps.inside.bads.items ≡ c.args.steps.bads = ap (λ d. d.bads) c.steps.view_is in
    λ k h. ap of_cell (c.in_ok-found.ensures.steps k h)
    ∙ (λ i. of_cell (unless_bad (bad_in (b i) k) (cell_of (cell_at (cols i) k))))
    ∙ ap (λ es. of_cell (unless_bad (bad_in c.args.steps.bads k) (cell_of es))) (changed_cell (labelled ch) f c.args.len k cs h)
    ∙ negated_step (bad_in c.args.steps.bads k) (value_in [] k) (cell_at cs k)
