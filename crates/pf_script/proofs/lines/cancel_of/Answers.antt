use Rattle.std.proofs.Common.{◌∙◌, sym}
use Rattle.pf_script.proofs.LineTexts.{cancel_found}
use Rattle.pf_script.proofs.lines.cancel_of.Goals as goal

pub returns-clause-exact : goal.returns-clause-exact
returns-clause-exact c =
    cancel_found _ c.args.words.now c.in-Some.id.now c.in-Some.tenant.now c.as_bytes.result.now _ _ c.in-Some-find.found c.in-Some.ensures
    (sym c.is_word.ensures ∙ c.if-not-is_word.false) c.as_bytes.ensures.value c.in-Some-find.ensures c.in_ok-tenant_of.ensures c.in_ok-of.ensures
