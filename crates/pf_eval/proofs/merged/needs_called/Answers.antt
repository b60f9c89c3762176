use Rattle.pf_eval.proofs.GivenParts.{called_lawful}
use Rattle.pf_eval.proofs.MergedParts.{called_merged, called_patterns}
use Rattle.pf_eval.proofs.merged.needs_called.Goals as goal

pub returns-clause-lawful : goal.returns-clause-lawful
returns-clause-lawful c = called_lawful _ _ _ c.requires.tree c.requires.merged.evaluated

pub returns-clause-patterns : goal.returns-clause-patterns
returns-clause-patterns c = called_patterns c.args.shards c.args.parts.now.items c.args.patterns.now _ _ _ c.requires.tree c.requires.merged

pub returns-clause-merged : goal.returns-clause-merged
returns-clause-merged c = called_merged c.args.shards c.args.parts.now.items c.args.patterns.now _ _ _ c.requires.tree c.requires.merged
