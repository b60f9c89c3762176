use Rattle.std.proofs.Common.{◌∙◌, Some, ap, sym}
use Rattle.pf_expo.proofs.Texts.{kept_text, no_text}
use Rattle.pf_expo.proofs.labels.text_of.Goals as goal

pub returns-in_ok-of-in-Ok : goal.returns-in_ok-of-in-Ok
returns-in_ok-of-in-Ok c =
    kept_text c.args.bytes.now c.args.bytes.now c.in-Ok.ensures.cases.1 ∙ ap Some (sym (c.in_ok-of-in-Ok.ensures ∙ c.in-Ok.ensures.cases.0))

pub returns-in-Err : goal.returns-in-Err
returns-in-Err c = no_text c.args.bytes.now c.args.bytes.now c.in-Err.ensures.cases.0
