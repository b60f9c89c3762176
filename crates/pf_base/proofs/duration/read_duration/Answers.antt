use Rattle.std.proofs.Common.{◌∙◌, sym}
use Rattle.pf_base.proofs.Durations.{duration_read}
use Rattle.pf_base.proofs.duration.read_duration.Goals as goal

pub returns : goal.returns
returns c = λ r. (λ h. (duration_read c.args.bytes.now r).0 (sym c.read_parts.ensures ∙ h), λ h. c.read_parts.ensures ∙ (duration_read c.args.bytes.now r).1 h)
