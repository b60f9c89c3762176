use Rattle.std.proofs.Common.{rules, ◌≡◌, ◌<◌, List, map, length, subst, ap, sym, ◌∙◌}
use Rattle.std.specs.List.{All}
use Rattle.pf_model.specs.Aggregation.{group_key}
use Rattle.pf_model.specs.Cells.{distinct}
use Rattle.pf_model.specs.Merging.{below}
use Rattle.pf_block.specs.Snaps.{labels_of}
use Rattle.pf_columns.specs.Columns.{AreRising, ColumnData, columns_labels}
use Rattle.pf_columns.specs.Groups.{place_in, those_of}
use Rattle.pf_columns.proofs.Below.{length_below}
use Rattle.pf_columns.proofs.GroupColumns.{ids_below}
use Rattle.pf_columns.proofs.GroupKeys.{distinct_rising}
use Rattle.pf_shard.specs.Groups.{known_over}
use Rattle.pf_shard.proofs.KnownGroups.{columns_known}
use Rattle.pf_selectors.specs.SeriesColumns.{series_column}
use Rattle.pf_eval.proofs.SeriesKnown.{series_labels}
use Rattle.pf_eval.proofs.summed.series_known.Goals as goal

pub known_series-requires-clause-within : goal.known_series-requires-clause-within
known_series-requires-clause-within c =
    let ks = map (group_key c.args.grouping.now.without c.args.grouping.now.labels) (map (labels_of c.args.snap.now) c.args.ids.now) in
    let own : c.len.result ≡ length c.groups.inside.keys.items = search rules in
    let many = own ∙ ap (λ g. length g.keys) (c.groups.view_is ∙ c.in_ok-groups.ensures) in
    let places = c.deref.ensures.value ∙ ap (λ g. g.of) (c.groups.view_is ∙ c.in_ok-groups.ensures) in
    subst (λ n. All (λ o. o < n) c.deref.result.now) (sym many)
    (subst (All (λ o. o < length (distinct ks))) (sym places) (ids_below ks))

pub steps-requires-clause-alike : goal.steps-requires-clause-alike
steps-requires-clause-alike c =
    let own : c.len.result ≡ length c.groups.inside.keys.items = search rules in
    ap length c.in_ok-known.ensures.known ∙ length_below _ c.len.result ∙ own

pub steps-requires-clause-rising : goal.steps-requires-clause-rising
steps-requires-clause-rising c =
    let ks = map (group_key c.args.grouping.now.without c.args.grouping.now.labels) (map (labels_of c.args.snap.now) c.args.ids.now) in
    subst AreRising (sym (ap (λ g. g.keys) (c.groups.view_is ∙ c.in_ok-groups.ensures))) (distinct_rising ks)

pub returns-clause-columns : goal.returns-clause-columns
returns-clause-columns c =
    let key = group_key c.args.grouping.now.without c.args.grouping.now.labels in
    let s = c.args.snap.now in
    let times = c.args.times.now in
    let cs : List ColumnData = map (series_column s times) c.args.ids.now in
    let same : columns_labels cs ≡ map (labels_of s) c.args.ids.now = series_labels s times c.args.ids.now in
    let own : c.len.result ≡ length c.groups.inside.keys.items = search rules in
    let keys = ap (λ g. g.keys) (c.groups.view_is ∙ c.in_ok-groups.ensures) ∙ ap (λ ls. distinct (map key ls)) (sym same) in
    let places = c.deref.ensures.value ∙ ap (λ g. g.of) (c.groups.view_is ∙ c.in_ok-groups.ensures) ∙ ap (λ ls. map (place_in (distinct (map key ls))) (map key ls)) (sym same) in
    c.in_ok-steps.ensures.0
    ∙ columns_known key cs times.len c.groups.inside.keys.items c.in_ok-known.known keys
    (c.in_ok-known.ensures.known ∙ (λ i. below (λ g. known_over times.len (those_of g (places i) cs)) (own i)))
