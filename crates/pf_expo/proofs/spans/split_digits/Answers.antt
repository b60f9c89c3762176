use Rattle.std.proofs.Common.{◌∙◌, ap, not}
use Rattle.std.specs.List.{list_all}
use Rattle.pf_expo.proofs.Fronts.{front_all, not_not, span_front, span_past}
use Rattle.std.specs.Char.{is_ascii_digit}
use Rattle.pf_expo.proofs.spans.split_digits.Goals as goal

pub returns-clause-front : goal.returns-clause-front
returns-clause-front c = c.split_where.ensures.front ∙ span_front is_ascii_digit (λ b. not (is_ascii_digit b)) (λ b. not_not (is_ascii_digit b)) c.args.bytes.now _ c.first_no_digit.ensures.place

pub returns-clause-behind : goal.returns-clause-behind
returns-clause-behind c = c.split_where.ensures.behind ∙ span_past is_ascii_digit (λ b. not (is_ascii_digit b)) (λ b. not_not (is_ascii_digit b)) c.args.bytes.now _ c.first_no_digit.ensures.place

pub returns-clause-all : goal.returns-clause-all
returns-clause-all c =
    ap (list_all is_ascii_digit) (c.split_where.ensures.front ∙ span_front is_ascii_digit (λ b. not (is_ascii_digit b)) (λ b. not_not (is_ascii_digit b)) c.args.bytes.now _ c.first_no_digit.ensures.place)
    ∙ front_all is_ascii_digit c.args.bytes.now
