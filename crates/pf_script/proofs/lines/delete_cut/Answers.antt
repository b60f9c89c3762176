use Rattle.std.proofs.Common.{◌∙◌, ap, sym}
use Rattle.pf_journal.specs.Scripts.{number_of}
use Rattle.pf_script.proofs.LineTexts.{delete_found}
use Rattle.pf_script.proofs.lines.delete_cut.Goals as goal

pub returns : goal.returns
returns c =
    delete_found c.args.words.now _ _ _ _ _ _ c.in_ok-tenant.ensures c.in_ok-from.ensures c.in_ok-to.ensures
    (sym (sym c.in_ok-number_of.was ∙ c.number_of.ensures ∙ ap number_of c.as_bytes.ensures.value))
    (sym (sym c.in_ok-number_of-2.was ∙ c.number_of-2.ensures ∙ ap number_of c.as_bytes-2.ensures.value)) c.in_ok-text_of.ensures
