use Rattle.std.proofs.Common.{◌∙◌, refl}
use Rattle.pf_expo.proofs.Fronts.{span_front, span_past}
use Rattle.pf_model.specs.Exposition.{is_blank, is_no_blank}
use Rattle.pf_expo.proofs.spans.split_word.Goals as goal

pub returns-clause-front : goal.returns-clause-front
returns-clause-front c = c.split_where.ensures.front ∙ span_front is_no_blank is_blank (λ b. refl) c.args.bytes.now _ c.first_blank.ensures.place

pub returns-clause-behind : goal.returns-clause-behind
returns-clause-behind c = c.split_where.ensures.behind ∙ span_past is_no_blank is_blank (λ b. refl) c.args.bytes.now _ c.first_blank.ensures.place
