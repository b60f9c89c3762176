use Rattle.pf_eval.proofs.MergedParts.{operand_merged}
use Rattle.pf_eval.proofs.merged.needs_operand.Goals as goal

pub returns : goal.returns
returns c = operand_merged c.args.shards c.args.parts.now.items c.args.patterns.now _ _ _ c.requires.tree c.requires.merged
