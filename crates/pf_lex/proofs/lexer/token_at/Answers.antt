use Rattle.std.proofs.Common.{◌∙◌, sym, ap, refl}
use Rattle.pf_model.specs.TokenScans.{token_at}
use Rattle.pf_lex.proofs.Places.{begins_at, none_at}
use Rattle.pf_lex.proofs.lexer.token_at.Goals as goal

pub returns-in_err-sort : goal.returns-in_err-sort
returns-in_err-sort c = let e = c.from_residual.ensures in rw e (none_at c.args.inside c.args.text.now c.args.at (ap (λ bs. token_at c.args.inside bs 0) (sym c.split_at.ensures.back) ∙ c.in_err-sort.ensures))

pub returns : goal.returns
returns c = begins_at c.args.inside c.args.text.now c.split_at.result.1.now c.args.at c.in_ok-sort.len _ c.in_ok-sort.sort c.split_at.ensures.back c.requires.within refl c.in_ok-sort.ensures
