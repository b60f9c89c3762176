use Rattle.std.proofs.Common.{rules}
use Rattle.pf_shard.proofs.MergedGroups.{cast_sum, together_is}
use Rattle.pf_shard.proofs.partials.together.Goals as goal

pub returns : goal.returns
returns c =
    together_is c.args.a c.args.b _ _ _ (cast_sum c.args.a.sum c.args.b.sum (search rules) (search rules) c.requires.0) c.less.ensures c.greater.ensures
