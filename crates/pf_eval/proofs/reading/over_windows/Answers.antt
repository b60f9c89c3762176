use Rattle.std.proofs.Common.{◌-ℤ◌, pos, nat_eq, ap, ◌∙◌}
use Rattle.pf_base.specs.ShardHash.{shard_of}
use Rattle.pf_model.specs.Cells.{cell_of}
use Rattle.pf_model.specs.Evaluation.{windows}
use Rattle.pf_model.specs.Legs.{of_shard}
use Rattle.pf_model.specs.Outcomes.{of_cell, of_series}
use Rattle.pf_selectors.specs.Times.{time_at}
use Rattle.pf_eval.proofs.reading.over_windows.Goals as goal

pub returns-clause-value : goal.returns-clause-value
returns-clause-value c = λ samples stands apart ids k h.
    let from = time_at c.args.read.now k -ℤ pos c.args.range in
    let to = time_at c.args.read.now k in
    ap of_cell (c.in_ok-found.ensures.all samples c.args.selector.now stands apart ids k h)
    ∙ ap (λ a. of_cell (cell_of (of_series c.args.f a from to (windows samples c.args.selector.now from to)))) c.in_ok-absent.ensures

pub returns-clause-shard : goal.returns-clause-shard
returns-clause-shard c = λ samples shard shards stands apart ids k h.
    let from = time_at c.args.read.now k -ℤ pos c.args.range in
    let to = time_at c.args.read.now k in
    ap of_cell (c.in_ok-found.ensures.passing samples c.args.selector.now (λ l. nat_eq (shard_of l shards) shard) stands apart ids k h)
    ∙ ap (λ a. of_cell (cell_of (of_series c.args.f a from to (windows (of_shard shard shards samples) c.args.selector.now from to)))) c.in_ok-absent.ensures
