use Rattle.std.proofs.Common.{◌∙◌, sym}
use Rattle.pf_base.proofs.ReadsExactly.{sound, complete}
use Rattle.pf_base.proofs.number.read_value.Goals as goal

pub returns : goal.returns
returns c = λ r. (λ h. sound c.args.bytes.now r (sym c.read_text.ensures ∙ h), λ h. c.read_text.ensures ∙ complete c.args.bytes.now r h)
