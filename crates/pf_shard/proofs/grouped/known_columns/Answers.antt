use Rattle.std.proofs.Common.{rules, ◌≡◌, ◌<◌, map, length, subst, ap, sym, ◌∙◌}
use Rattle.std.specs.List.{All}
use Rattle.pf_model.specs.Aggregation.{group_key}
use Rattle.pf_model.specs.Cells.{distinct}
use Rattle.pf_columns.specs.Columns.{columns_labels}
use Rattle.pf_columns.proofs.Below.{length_below}
use Rattle.pf_columns.proofs.GroupColumns.{ids_below}
use Rattle.pf_shard.specs.Groups.{AreWithin}
use Rattle.pf_shard.proofs.KnownGroups.{found_known, keyed_within}
use Rattle.pf_shard.proofs.grouped.known_columns.Goals as goal

pub known_by_place-requires-clause-inside : goal.known_by_place-requires-clause-inside
known_by_place-requires-clause-inside c =
    let ks = map (group_key c.args.grouping.now.without c.args.grouping.now.labels) (columns_labels c.args.columns.now) in
    let own : c.len.result ≡ length c.ids.inside.keys.items = search rules in
    let many = own ∙ ap (λ g. length g.keys) (c.ids.view_is ∙ c.in_ok-ids.ensures) in
    let places = c.deref.ensures.value ∙ ap (λ g. g.of) (c.ids.view_is ∙ c.in_ok-ids.ensures) in
    subst (λ n. All (λ o. o < n) c.deref.result.now) (sym many)
    (subst (All (λ o. o < length (distinct ks))) (sym places) (ids_below ks))

pub with_keys-requires : goal.with_keys-requires
with_keys-requires c =
    let own : c.len.result ≡ length c.ids.inside.keys.items = search rules in
    ap length c.in_ok-known.ensures.known ∙ length_below _ c.len.result ∙ own

pub returns-clause-known : goal.returns-clause-known
returns-clause-known c =
    let key = group_key c.args.grouping.now.without c.args.grouping.now.labels in
    let cs = c.args.columns.now in
    let own : c.len.result ≡ length c.ids.inside.keys.items = search rules in
    let keys = ap (λ g. g.keys) (c.ids.view_is ∙ c.in_ok-ids.ensures) in
    let places = c.deref.ensures.value ∙ ap (λ g. g.of) (c.ids.view_is ∙ c.in_ok-ids.ensures) in
    c.in_ok-found.ensures
    ∙ found_known key cs c.args.len c.deref.result.now c.ids.inside.keys.items c.len.result c.in_ok-known.known places keys own c.in_ok-known.ensures.known

pub returns-clause-within : goal.returns-clause-within
returns-clause-within c =
    subst (AreWithin 4294967295) (sym c.in_ok-found.ensures)
    (keyed_within 4294967295 c.ids.inside.keys.items c.in_ok-known.known c.in_ok-known.ensures.within)
