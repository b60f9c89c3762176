use Rattle.pf_parse.proofs.Endless.{never_ends}
use Rattle.pf_parse.proofs.reader.ends.Goals as goal

pub returns-in_default : goal.returns-in_default
returns-in_default c =
    never_ends c.args.mode c.args.stack.now c.in_default.not-Named c.in_default.not-Modified c.in_default.not-Whole
    c.in_default.not-Aggregating
