use Rattle.std.proofs.Common.{◌<◌, Some, map, subst, sym, ap, ◌∙◌}
use Rattle.pf_model.specs.Cells.{cell_of}
use Rattle.pf_model.specs.Evaluation.{selected, timed}
use Rattle.pf_model.specs.InstantFunctions.{each_value}
use Rattle.pf_model.specs.Legs.{of_shard}
use Rattle.pf_model.specs.Outcomes.{of_cell}
use Rattle.pf_eval.proofs.reading.timestamps.Goals as goal

pub returns-clause-value : goal.returns-clause-value
returns-clause-value c = λ samples ms stands ids k h.
    c.in_ok-found.ensures.value samples ms stands ids k (subst (λ n. k < n) (sym c.read_times-read.ensures.len) h)
    ∙ ap (λ t. of_cell (cell_of (each_value Some (selected (map timed samples) ms t)))) (c.read_times-read.ensures.times k h)

pub returns-clause-shard : goal.returns-clause-shard
returns-clause-shard c = λ samples ms shard shards stands ids k h.
    c.in_ok-found.ensures.shard samples ms shard shards stands ids k (subst (λ n. k < n) (sym c.read_times-read.ensures.len) h)
    ∙ ap (λ t. of_cell (cell_of (each_value Some (selected (map timed (of_shard shard shards samples)) ms t)))) (c.read_times-read.ensures.times k h)
