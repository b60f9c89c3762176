use Rattle.std.proofs.Common.{◌<◌, [], ◌∷◌, Some, subst, sym, ap, ◌∙◌}
use Rattle.pf_model.specs.Evaluation.{selection}
use Rattle.pf_model.specs.InstantFunctions.{absent_labels}
use Rattle.pf_model.specs.Legs.{of_shard}
use Rattle.pf_model.specs.Outcomes.{range_call}
use Rattle.pf_eval.proofs.ReadTimes.{starts_within}
use Rattle.pf_eval.proofs.reading.over_range.Goals as goal

pub over_windows-requires-clause-starts : goal.over_windows-requires-clause-starts
over_windows-requires-clause-starts c =
    starts_within c.args.mods c.read_times-read.result c.args.times.now c.args.range c.requires.near c.requires.room c.requires.range
    c.read_times-read.ensures.len c.read_times-read.ensures.times

pub returns-clause-value : goal.returns-clause-value
returns-clause-value c = λ samples stands apart ids k h.
    c.in_ok-found.ensures.value samples stands apart ids k (subst (λ n. k < n) (sym c.read_times-read.ensures.len) h)
    ∙ ap (λ t. range_call c.args.f (absent_labels c.args.selector.now) (selection samples c.args.selector.now (Some c.args.range) t ∷ [])) (c.read_times-read.ensures.times k h)

pub returns-clause-shard : goal.returns-clause-shard
returns-clause-shard c = λ samples shard shards stands apart ids k h.
    c.in_ok-found.ensures.shard samples shard shards stands apart ids k (subst (λ n. k < n) (sym c.read_times-read.ensures.len) h)
    ∙ ap (λ t. range_call c.args.f (absent_labels c.args.selector.now) (selection (of_shard shard shards samples) c.args.selector.now (Some c.args.range) t ∷ [])) (c.read_times-read.ensures.times k h)
