use Rattle.pf_eval.proofs.MergedParts.{alone_behind, alone_held, alone_value, mergeable}
use Rattle.pf_eval.proofs.merged.needs_shards.Goals as goal

pub returns-clause-mergeable : goal.returns-clause-mergeable
returns-clause-mergeable c = mergeable c.args.shards _ _ _ _ c.requires.tree c.requires.sharded

pub returns-clause-parts : goal.returns-clause-parts
returns-clause-parts c = alone_held c.args.shards _ _ _ _ c.requires.tree c.requires.sharded c.args.parts.now.items c.requires.merged.enough

pub returns-clause-behind : goal.returns-clause-behind
returns-clause-behind c = λ last l. alone_behind c.args.shards _ _ _ _ c.requires.tree c.requires.sharded c.args.parts.now.items last l

pub returns-clause-value : goal.returns-clause-value
returns-clause-value c = λ samples o k h.
    alone_value c.args.shards _ _ _ _ c.requires.tree c.requires.sharded samples c.args.times.now c.args.parts.now.items c.requires.positive o k h
