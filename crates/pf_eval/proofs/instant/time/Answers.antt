use Rattle.std.proofs.Common.{Some, None, ap, ◌∙◌}
use Rattle.pf_model.specs.Micros.{seconds}
use Rattle.pf_columns.specs.Steps.{bad_in}
use Rattle.pf_columns.proofs.Below.{read_below}
use Rattle.pf_selectors.specs.Times.{time_at}
use Rattle.pf_eval.specs.Nodes.{scalar_unless}
use Rattle.pf_eval.proofs.InstantSteps.{scalar_step}
use Rattle.pf_eval.proofs.instant.time.Goals as goal

pub returns-clause-value : goal.returns-clause-value
returns-clause-value c =
    let bads = c.args.args.bads.items in
    let ts = c.args.times.now in
    λ absent k h. ap (scalar_unless (bad_in bads k)) (read_below None c.in_ok-values.values.items (λ j. Some (seconds (time_at ts j))) ts.len k c.in_ok-values.ensures h)
    ∙ scalar_step (bad_in bads k) (Some (seconds (time_at ts k)))
