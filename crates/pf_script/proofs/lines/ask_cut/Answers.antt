use Rattle.std.proofs.Common.{◌∙◌, ap, sym}
use Rattle.pf_journal.specs.Scripts.{number_of}
use Rattle.pf_script.proofs.LineTexts.{ask_found}
use Rattle.pf_script.proofs.lines.ask_cut.Goals as goal

pub returns : goal.returns
returns c =
    ask_found c.args.words.now _ _ _ _ _ _ _ _ _ c.in_ok-id.ensures c.in_ok-tenant.ensures c.in_ok-start.ensures c.in_ok-end.ensures c.in_ok-step.ensures
    (sym (sym c.in_ok-number_of.was ∙ c.number_of.ensures ∙ ap number_of c.as_bytes.ensures.value))
    (sym (sym c.in_ok-number_of-2.was ∙ c.number_of-2.ensures ∙ ap number_of c.as_bytes-2.ensures.value))
    (sym (sym c.in_ok-number_of-3.was ∙ c.number_of-3.ensures ∙ ap number_of c.as_bytes-3.ensures.value)) c.in_ok-text_of.ensures
