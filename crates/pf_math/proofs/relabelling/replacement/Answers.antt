use Rattle.pf_match.specs.Meaning.{expand}
use Rattle.pf_math.proofs.EachLabels.{few_kept}
use Rattle.pf_math.proofs.relabelling.replacement.Goals as goal

pub returns-in_default : goal.returns-in_default
returns-in_default c = λ ls. few_kept (expand c.args.pattern.now) c.args.texts.now ls c.in_default.len_below
