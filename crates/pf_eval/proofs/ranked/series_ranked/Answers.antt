use Rattle.std.proofs.Common.{rules, ◌≡◌, ◌<◌, ℕ, List, map, length, subst, ap, sym, ◌∙◌}
use Rattle.std.specs.List.{All}
use Rattle.std.proofs.lemmas.List.{get_or-map, length-map}
use Rattle.pf_model.specs.Aggregation.{group_key}
use Rattle.pf_model.specs.Cells.{cell_of, distinct}
use Rattle.pf_block.specs.Snaps.{labels_of}
use Rattle.pf_columns.specs.Columns.{AreRising, ColumnData, cell_at, columns_labels}
use Rattle.pf_columns.specs.Groups.{place_in}
use Rattle.pf_columns.specs.Ranks.{buckets_by, no_column}
use Rattle.pf_columns.specs.Steps.{bad_in, unless_bad}
use Rattle.pf_columns.proofs.EachGroup.{made_is}
use Rattle.pf_columns.proofs.GroupColumns.{ids_below}
use Rattle.pf_selectors.specs.SeriesColumns.{series_column}
use Rattle.pf_eval.specs.Ranked.{column_at, each_first}
use Rattle.pf_eval.proofs.RankedSeries.{bucket, buckets_within}
use Rattle.pf_eval.proofs.SeriesKnown.{series_labels}
use Rattle.pf_eval.proofs.ranked.series_ranked.Goals as goal

pub buckets_by-requires : goal.buckets_by-requires
buckets_by-requires c =
    let ks = map (group_key c.args.grouping.now.without c.args.grouping.now.labels) (map (labels_of c.args.snap.now) c.args.ids.now) in
    let own : c.len.result ≡ length c.groups.inside.keys.items = search rules in
    let many = own ∙ ap (λ g. length g.keys) (c.groups.view_is ∙ c.in_ok-groups.ensures) in
    let places = c.deref.ensures.value ∙ ap (λ g. g.of) (c.groups.view_is ∙ c.in_ok-groups.ensures) in
    subst (λ n. All (λ o. o < n) c.deref.result.now) (sym many)
    (subst (All (λ o. o < length (distinct ks))) (sym places) (ids_below ks))

pub each_group-requires-clause-within : goal.each_group-requires-clause-within
each_group-requires-clause-within c =
    let key = group_key c.args.grouping.now.without c.args.grouping.now.labels in
    let ids = c.args.ids.now in
    let ls = map (labels_of c.args.snap.now) ids in
    let places = c.deref.ensures.value ∙ ap (λ g. g.of) (c.groups.view_is ∙ c.in_ok-groups.ensures) in
    let alike : length c.deref.result.now ≡ length ids =
    ap length places ∙ length-map (map key ls) (place_in (distinct (map key ls))) ∙ length-map ls key ∙ length-map ids (labels_of c.args.snap.now) in
    buckets_within c.deref.result.now c.len.result (length ids) c.deref-2.result.now alike
    (ap (map bucket) c.deref-2.ensures.value ∙ c.in_ok-buckets.ensures)

pub returns : goal.returns
returns c = λ rises k h.
    let key = group_key c.args.grouping.now.without c.args.grouping.now.labels in
    let r = c.args.rank in
    let params = c.args.params.now in
    let s = c.args.snap.now in
    let times = c.args.times.now in
    let ids = c.args.ids.now in
    let column : ℕ → ColumnData = series_column s times in
    let cs : List ColumnData = map column ids in
    let same : columns_labels cs ≡ map (labels_of s) ids = series_labels s times ids in
    let own : c.len.result ≡ length c.groups.inside.keys.items = search rules in
    let many = own ∙ ap (λ g. length g.keys) (c.groups.view_is ∙ c.in_ok-groups.ensures) ∙ ap (λ ls. length (distinct (map key ls))) (sym same) in
    let places = c.deref.ensures.value ∙ ap (λ g. g.of) (c.groups.view_is ∙ c.in_ok-groups.ensures) ∙ ap (λ ls. map (place_in (distinct (map key ls))) (map key ls)) (sym same) in
    let found = c.in_ok-found.ensures
    ∙ ap (each_first r params s times ids) (ap (map bucket) c.deref-2.ensures.value ∙ c.in_ok-buckets.ensures ∙ (λ i. buckets_by (places i) (many i))) in
    c.in_ok-steps.ensures.steps k h
    ∙ ap (λ bads. unless_bad (bad_in bads k) (cell_of (cell_at c.in_ok-found.found.items k))) c.new-2.ensures.items
    ∙ ap (λ made. cell_of (cell_at made k)) found
    ∙ made_is r key params cs times.len (subst AreRising (sym same) rises) (column_at s times ids)
    (λ j l. sym (get_or-map column ids j 0 no_column (subst (λ n. j < n) (length-map ids column) l))) k h
