use Rattle.pf_eval.proofs.MergedParts.{aggregated_merged, whole_sharded}
use Rattle.pf_eval.proofs.merged.needs_aggregated.Goals as goal

pub returns-clause-same : goal.returns-clause-same
returns-clause-same c = whole_sharded c.args.shards c.args.parts.now.items c.args.patterns.now _ _ _ _ c.requires.tree c.requires.whole

pub returns-clause-merged : goal.returns-clause-merged
returns-clause-merged c = aggregated_merged c.args.shards c.args.parts.now.items c.args.patterns.now _ _ _ _ c.requires.tree c.requires.whole c.requires.merged
