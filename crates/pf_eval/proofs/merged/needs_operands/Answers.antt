use Rattle.pf_eval.proofs.MergedParts.{behind_operands, left_merged, of_first, of_second, right_merged}
use Rattle.pf_eval.proofs.merged.needs_operands.Goals as goal

pub returns-clause-left : goal.returns-clause-left
returns-clause-left c = left_merged c.args.shards c.args.parts.now.items c.args.patterns.now _ _ _ _ _ c.requires.tree c.requires.merged

pub returns-clause-right : goal.returns-clause-right
returns-clause-right c = λ rest r. right_merged c.args.shards c.args.parts.now.items c.args.patterns.now _ _ _ _ _ c.requires.tree c.requires.merged rest r

pub returns-clause-behind : goal.returns-clause-behind
returns-clause-behind c = λ rest last r l. behind_operands c.args.shards c.args.parts.now.items c.args.patterns.now _ _ _ _ _ c.requires.tree rest last r l

pub returns-clause-of_left : goal.returns-clause-of_left
returns-clause-of_left c = λ samples o. of_first c.args.shards c.args.parts.now.items c.args.patterns.now _ _ _ _ _ c.requires.tree samples c.args.times.now o

pub returns-clause-of_right : goal.returns-clause-of_right
returns-clause-of_right c = λ samples rest r o. of_second c.args.shards c.args.parts.now.items c.args.patterns.now _ _ _ _ _ c.requires.tree samples c.args.times.now o rest r
