use Rattle.std.proofs.Common.{None, ap, ◌∙◌}
use Rattle.pf_model.specs.declared.cell.StepCell.TheVariants.{Good}
use Rattle.pf_model.specs.Cells.{element}
use Rattle.pf_model.specs.Outcomes.{of_cell}
use Rattle.pf_columns.specs.Columns.{cell_at}
use Rattle.pf_columns.specs.Steps.{bad_in, unless_bad}
use Rattle.pf_columns.proofs.Below.{read_below}
use Rattle.pf_eval.specs.Calls.{absent_value}
use Rattle.pf_eval.proofs.InstantSteps.{absent_step}
use Rattle.pf_eval.proofs.instant.absent.Goals as goal

pub returns-clause-value : goal.returns-clause-value
returns-clause-value c =
    let a = c.args.args in
    λ t k h. ap of_cell (c.in_ok-found.ensures k)
    ∙ ap (λ o. of_cell (unless_bad (bad_in a.bads.items k) (Good (element c.args.labels o))))
    (read_below None c.in_ok-values.values.items (λ j. absent_value (cell_at c.deref.result.now j)) c.args.len k c.in_ok-values.ensures h
    ∙ ap (λ cs. absent_value (cell_at cs k)) c.deref.ensures.value)
    ∙ absent_step c.args.labels (bad_in a.bads.items k) (cell_at a.columns.items k)
