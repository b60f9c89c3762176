use Rattle.std.proofs.Common.{arith}
use Rattle.std.proofs.lemmas.Grind.{common_steps}
use Rattle.pf_model.proofs.FirstLines.{line_there}
use Rattle.pf_model.proofs.lines.next_line.Goals as goal

pub returns-clause-lines : goal.returns-clause-lines
returns-clause-lines c = line_there c.args.bytes.now c.in-Some.end _ c.in-Some.ensures.place c.without_return.ensures

pub returns-clause-shorter : goal.returns-clause-shorter
returns-clause-shorter c = grind (arith, common_steps)
