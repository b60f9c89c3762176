use Rattle.std.proofs.Common.{ℕ, ℤ, Option, ap, ◌∙◌}
use Rattle.pf_model.specs.Cells.{cell_of}
use Rattle.pf_columns.specs.Columns.{cell_at, value_in}
use Rattle.pf_columns.specs.Steps.{bad_in, unless_bad}
use Rattle.pf_eval.specs.Nodes.{applied, labelled}
use Rattle.pf_eval.proofs.Changes.{changed_cell}
use Rattle.pf_eval.proofs.change.altered.Goals as goal

pub returns : goal.returns
returns c =
    let ch = c.args.change in
    let f : ℕ → ℤ → Option ℤ = λ j. applied ch (value_in c.args.scalars.now j) in
    let cs = c.args.columns.now in
    let bs = c.args.bads.items in
    λ k h. c.in_ok-found.ensures.steps k h
    ∙ ap (λ ds. unless_bad (bad_in bs k) (cell_of (cell_at ds k))) c.in_ok-columns.ensures
    ∙ ap (λ es. unless_bad (bad_in bs k) (cell_of es)) (changed_cell (labelled ch) f c.args.len k cs h)
