use Rattle.std.proofs.Common.{◌∙◌, ap, sym}
use Rattle.pf_journal.specs.Scripts.{number_of}
use Rattle.pf_script.proofs.LineTexts.{instant_found}
use Rattle.pf_script.proofs.lines.instant_cut.Goals as goal

pub returns : goal.returns
returns c =
    instant_found c.args.words.now _ _ _ _ _ c.in_ok-id.ensures c.in_ok-tenant.ensures c.in_ok-time.ensures
    (sym (sym c.in_ok-number_of.was ∙ c.number_of.ensures ∙ ap number_of c.as_bytes.ensures.value)) c.in_ok-text_of.ensures
