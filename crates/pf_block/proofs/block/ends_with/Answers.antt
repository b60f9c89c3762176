use Rattle.pf_block.proofs.Runs.{last_there}
use Rattle.pf_block.proofs.block.ends_with.Goals as goal

pub returns-in-Some : goal.returns-in-Some
returns-in-Some c = last_there c.args.id c.args.runs.now c.in-Some.last.now c.in-Some.ensures.value
