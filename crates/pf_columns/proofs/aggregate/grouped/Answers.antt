use Rattle.std.proofs.Common.{◌<◌, length, map, subst, ap, sym, ◌∙◌}
use Rattle.std.specs.List.{All}
use Rattle.std.proofs.lemmas.List.{length-map}
use Rattle.pf_model.specs.Aggregation.{group_key}
use Rattle.pf_model.specs.Cells.{distinct}
use Rattle.pf_columns.specs.Columns.{columns_labels}
use Rattle.pf_columns.specs.Groups.{found_at, id_columns, place_in}
use Rattle.pf_columns.proofs.GroupColumns.{columns_are, ids_below}
use Rattle.pf_columns.proofs.aggregate.grouped.Goals as goal

pub columns_by_place-requires-clause-alike : goal.columns_by_place-requires-clause-alike
columns_by_place-requires-clause-alike c =
    let key = group_key c.args.grouping.now.without c.args.grouping.now.labels in
    let ls = columns_labels c.args.columns.now in
    ap length (c.deref-2.ensures.value ∙ ap (λ g. g.of) (c.ids.view_is ∙ c.in_ok-ids.ensures))
    ∙ length-map (map key ls) (place_in (distinct (map key ls))) ∙ length-map ls key ∙ length-map c.args.columns.now (λ d. d.labels)

pub columns_by_place-requires-clause-within : goal.columns_by_place-requires-clause-within
columns_by_place-requires-clause-within c =
    let ks = map (group_key c.args.grouping.now.without c.args.grouping.now.labels) (columns_labels c.args.columns.now) in
    let keys = c.deref.ensures.value ∙ ap (λ g. g.keys) (c.ids.view_is ∙ c.in_ok-ids.ensures) in
    let places = c.deref-2.ensures.value ∙ ap (λ g. g.of) (c.ids.view_is ∙ c.in_ok-ids.ensures) in
    subst (λ ls. All (λ o. o < length ls) c.deref-2.result.now) (sym keys)
    (subst (All (λ o. o < length (distinct ks))) (sym places) (ids_below ks))

pub returns : goal.returns
returns c =
    let f = found_at c.args.function.now in
    let key = group_key c.args.grouping.now.without c.args.grouping.now.labels in
    let cs = c.args.columns.now in
    let keys = c.deref.ensures.value ∙ ap (λ g. g.keys) (c.ids.view_is ∙ c.in_ok-ids.ensures) in
    let places = c.deref-2.ensures.value ∙ ap (λ g. g.of) (c.ids.view_is ∙ c.in_ok-ids.ensures) in
    c.in_ok-found.ensures ∙ (λ i. id_columns f (places i) cs c.args.len 0 (keys i)) ∙ columns_are f key cs c.args.len
