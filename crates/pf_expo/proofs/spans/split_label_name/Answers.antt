use Rattle.std.proofs.Common.{◌∙◌, not}
use Rattle.pf_expo.proofs.Fronts.{not_not, span_front, span_past}
use Rattle.pf_base.specs.LabelSets.{goes_on}
use Rattle.pf_expo.proofs.spans.split_label_name.Goals as goal

pub returns-clause-front : goal.returns-clause-front
returns-clause-front c = c.split_where.ensures.front ∙ span_front goes_on (λ b. not (goes_on b)) (λ b. not_not (goes_on b)) c.args.bytes.now _ c.first_behind_label_name.ensures.place

pub returns-clause-behind : goal.returns-clause-behind
returns-clause-behind c = c.split_where.ensures.behind ∙ span_past goes_on (λ b. not (goes_on b)) (λ b. not_not (goes_on b)) c.args.bytes.now _ c.first_behind_label_name.ensures.place
