use Rattle.std.proofs.Common.{None, ap, ◌∙◌}
use Rattle.pf_model.specs.InstantFunctions.{only_value}
use Rattle.pf_columns.specs.Columns.{cell_at}
use Rattle.pf_columns.specs.Steps.{bad_in}
use Rattle.pf_columns.proofs.Below.{read_below}
use Rattle.pf_eval.specs.Nodes.{scalar_unless}
use Rattle.pf_eval.proofs.InstantSteps.{scalar_step}
use Rattle.pf_eval.proofs.instant.scalar.Goals as goal

pub returns-clause-value : goal.returns-clause-value
returns-clause-value c =
    let a = c.args.args in
    λ absent t k h. ap (scalar_unless (bad_in a.bads.items k))
    (read_below None c.in_ok-values.values.items (λ j. only_value (cell_at c.deref.result.now j)) c.args.len k c.in_ok-values.ensures h
    ∙ ap (λ cs. only_value (cell_at cs k)) c.deref.ensures.value)
    ∙ scalar_step (bad_in a.bads.items k) (only_value (cell_at a.columns.items k))
