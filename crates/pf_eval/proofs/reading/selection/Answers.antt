use Rattle.std.proofs.Common.{subst, sym, ap, nat_eq, ◌∙◌, ◌<◌}
use Rattle.pf_base.specs.ShardHash.{shard_of}
use Rattle.pf_model.specs.Evaluation.{selected}
use Rattle.pf_model.specs.Legs.{of_shard}
use Rattle.pf_model.specs.Outcomes.{elements, of_cell}
use Rattle.pf_eval.proofs.reading.selection.Goals as goal

pub returns-clause-value : goal.returns-clause-value
returns-clause-value c = λ samples ms stands ids k h.
    ap of_cell (c.in_ok-found.ensures.all samples ms stands ids k (subst (λ n. k < n) (sym c.read_times-read.ensures.len) h))
    ∙ ap (λ t. elements (selected samples ms t)) (c.read_times-read.ensures.times k h)

pub returns-clause-shard : goal.returns-clause-shard
returns-clause-shard c = λ samples ms shard shards stands ids k h.
    ap of_cell (c.in_ok-found.ensures.passing samples ms (λ l. nat_eq (shard_of l shards) shard) stands ids k (subst (λ n. k < n) (sym c.read_times-read.ensures.len) h))
    ∙ ap (λ t. elements (selected (of_shard shard shards samples) ms t)) (c.read_times-read.ensures.times k h)
