use Rattle.std.proofs.Common.{◌∙◌, not}
use Rattle.pf_expo.proofs.Fronts.{not_not, span_front, span_past}
use Rattle.pf_model.specs.Exposition.{goes_on_metric}
use Rattle.pf_expo.proofs.spans.split_metric_name.Goals as goal

pub returns-clause-front : goal.returns-clause-front
returns-clause-front c = c.split_where.ensures.front ∙ span_front goes_on_metric (λ b. not (goes_on_metric b)) (λ b. not_not (goes_on_metric b)) c.args.bytes.now _ c.first_behind_metric_name.ensures.place

pub returns-clause-behind : goal.returns-clause-behind
returns-clause-behind c = c.split_where.ensures.behind ∙ span_past goes_on_metric (λ b. not (goes_on_metric b)) (λ b. not_not (goes_on_metric b)) c.args.bytes.now _ c.first_behind_metric_name.ensures.place
