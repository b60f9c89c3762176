use Rattle.std.proofs.Common.{◌∙◌, sym, ap, arith}
use Rattle.std.specs.Option.{is_some}
use Rattle.pf_base.specs.NumberScans.{decimal_of}
use Rattle.pf_lex.proofs.Numbers.{number_found}
use Rattle.pf_lex.proofs.number.number_in_front.Goals as goal

pub number_of-requires-clause-form : goal.number_of-requires-clause-form
number_of-requires-clause-form c =
    ap (λ xs. is_some (decimal_of xs)) c.split_at.ensures.front
    ∙ (number_found c.args.bytes.now c.in_ok-len.len (sym c.longest_number.ensures.len ∙ c.in_ok-len.was)).fits

pub number_of-requires-clause-short : goal.number_of-requires-clause-short
number_of-requires-clause-short c =
    let f = number_found c.args.bytes.now c.in_ok-len.len (sym c.longest_number.ensures.len ∙ c.in_ok-len.was) in omega arith
