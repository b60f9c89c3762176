use Rattle.std.proofs.Common.{nat_eq, ap}
use Rattle.pf_base.specs.ShardHash.{shard_of}
use Rattle.pf_model.specs.Outcomes.{of_cell}
use Rattle.pf_eval.proofs.reading.times_read.Goals as goal

pub returns-clause-value : goal.returns-clause-value
returns-clause-value c = λ samples ms stands ids k h. ap of_cell (c.in_ok-found.ensures.all samples ms stands ids k h)

pub returns-clause-shard : goal.returns-clause-shard
returns-clause-shard c = λ samples ms shard shards stands ids k h.
    ap of_cell (c.in_ok-found.ensures.passing samples ms (λ l. nat_eq (shard_of l shards) shard) stands ids k h)
