use Rattle.pf_base.proofs.ShardSteps.{label_steps}
use Rattle.pf_base.proofs.labels.shard.hash_label.Goals as goal

pub returns : goal.returns
returns c = let e = label_steps c.args.hash c.args.name.now c.args.value.now in cc
