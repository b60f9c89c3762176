use Rattle.std.proofs.Common.{◌≡◌, ◌<◌, ◌≤◌, List, [], map, nat_eq, refl, subst, ap, sym, ◌∙◌, arith}
use Rattle.pf_base.specs.ShardHash.{shard_of}
use Rattle.pf_model.specs.Evaluation.{read_time, selected}
use Rattle.pf_model.specs.Legs.{grouped_part, of_shard}
use Rattle.pf_model.specs.declared.cell.StepCell.TheVariants.{Good}
use Rattle.pf_columns.specs.Columns.{ColumnData}
use Rattle.pf_shard.proofs.KnownGroups.{part_known}
use Rattle.pf_selectors.specs.SeriesColumns.{series_column}
use Rattle.pf_selectors.proofs.PassingSeries.{series_passing}
use Rattle.pf_eval.proofs.summed.selected_groups.Goals as goal

pub series_known-requires-clause-some : goal.series_known-requires-clause-some
series_known-requires-clause-some c =
    let least : 1 ≤ c.len-len.result = c.len-len.ensures.within.0 in
    subst (λ n. 0 < n) (sym (c.read_times-read.ensures.len ∙ c.times_of-times.ensures.len)) (subst (λ n. 0 < n) c.len-len.ensures.value (omega (arith, least)))

pub returns : goal.returns
returns c = λ samples ms shard shards stands ids k h.
    let s = c.args.snap.now in
    let run = c.args.run.now in
    let read = c.read_times-read.result in
    let cs : List ColumnData = map (series_column s read) c.args.ids.now in
    let same : read.len ≡ run.len = c.read_times-read.ensures.len ∙ c.times_of-times.ensures.len in
    let within : k < read.len = subst (λ n. k < n) (sym same) h in
    part_known c.args.grouping.now cs cs c.in_ok-groups.groups.columns read.len [] c.in_ok-groups.groups.bads refl c.in_ok-groups.ensures.bads c.in_ok-groups.ensures.columns k within
    ∙ ap (λ es. grouped_part c.args.grouping.now (Good es))
    (series_passing (λ l. nat_eq (shard_of l shards) shard) s samples ms c.series_count-count.ensures.snap stands read c.args.ids.now k within ids
    ∙ ap (selected (of_shard shard shards samples) ms)
    (c.read_times-read.ensures.times k (subst (λ n. k < n) (sym c.times_of-times.ensures.len) h) ∙ ap (read_time c.args.mods) (c.times_of-times.ensures.times k h)))
