use Rattle.std.proofs.Common.{◌∙◌, not}
use Rattle.pf_expo.proofs.Fronts.{not_not, span_past}
use Rattle.pf_model.specs.Exposition.{is_blank}
use Rattle.pf_expo.proofs.spans.past_blanks.Goals as goal

pub returns : goal.returns
returns c = c.split_where.ensures.behind ∙ span_past is_blank (λ b. not (is_blank b)) (λ b. not_not (is_blank b)) c.args.bytes.now _ c.first_no_blank.ensures.place
