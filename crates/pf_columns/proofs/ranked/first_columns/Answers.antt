use Rattle.std.proofs.Common.{◌<◌, length, map, subst, ap, sym, ◌∙◌}
use Rattle.std.specs.List.{All}
use Rattle.pf_model.specs.Aggregation.{group_key}
use Rattle.pf_model.specs.Cells.{distinct}
use Rattle.pf_columns.specs.Columns.{columns_labels}
use Rattle.pf_columns.specs.Groups.{groups_by}
use Rattle.pf_columns.specs.Ranks.{first_by_place}
use Rattle.pf_columns.proofs.GroupColumns.{ids_below}
use Rattle.pf_columns.proofs.ranked.first_columns.Goals as goal

pub first_by_place-requires : goal.first_by_place-requires
first_by_place-requires c =
    let ks = map (group_key c.args.grouping.now.without c.args.grouping.now.labels) (columns_labels c.deref.result.now) in
    let keys = c.len.ensures ∙ c.ids.inside.keys.ok.0 ∙ ap (λ g. length g.keys) (c.ids.view_is ∙ c.in_ok-ids.ensures) in
    let places = c.deref-2.ensures.value ∙ ap (λ g. g.of) (c.ids.view_is ∙ c.in_ok-ids.ensures) in
    subst (λ n. All (λ o. o < n) c.deref-2.result.now) (sym keys) (subst (All (λ o. o < length (distinct ks))) (sym places) (ids_below ks))

pub returns : goal.returns
returns c =
    let r = c.args.rank in
    let params = c.args.params.now in
    let cs = c.args.columns.items in
    let n = c.args.len in
    let key = group_key c.args.grouping.now.without c.args.grouping.now.labels in
    let ids = c.ids.view_is ∙ c.in_ok-ids.ensures ∙ ap (λ ds. groups_by key (columns_labels ds)) c.deref.ensures.value in
    let keys = c.len.ensures ∙ c.ids.inside.keys.ok.0 ∙ ap (λ g. length g.keys) ids in
    let places = c.deref-2.ensures.value ∙ ap (λ g. g.of) ids in
    c.in_ok-found.ensures ∙ (λ i. first_by_place r params cs (places i) (keys i) n)
