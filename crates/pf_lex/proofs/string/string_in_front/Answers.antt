use Rattle.std.proofs.Common.{◌∙◌, sym}
use Rattle.pf_lex.proofs.Strings.{no_string_in_front, string_in_front}
use Rattle.pf_lex.proofs.string.string_in_front.Goals as goal

pub returns-in_err-len : goal.returns-in_err-len
returns-in_err-len c = let e = c.from_residual.ensures in rw e (λ inside. no_string_in_front inside c.args.bytes.now c.requires (sym c.string_len.ensures.len ∙ c.in_err-len.was))

pub returns : goal.returns
returns c = λ inside. string_in_front inside c.args.bytes.now c.in_ok-len.len c.requires (sym c.string_len.ensures.len ∙ c.in_ok-len.was)
