use Rattle.std.proofs.Common.{◌≡◌, ◌<◌, map, length, subst, ap, sym, ◌∙◌, Bor, Vec, Global, List}
use Rattle.std.specs.List.{All}
use Rattle.std.proofs.lemmas.List.{length-map}
use Rattle.pf_model.specs.declared.cell.Element.{Element}
use Rattle.pf_model.specs.Aggregation.{group_key}
use Rattle.pf_model.specs.Cells.{distinct, labels_of}
use Rattle.pf_model.specs.Merging.{below}
use Rattle.pf_columns.specs.Columns.{columns_labels}
use Rattle.pf_columns.specs.Groups.{place_in}
use Rattle.pf_columns.proofs.Below.{length_below}
use Rattle.pf_agg.specs.Buckets.{those_of}
use Rattle.pf_columns.proofs.GroupColumns.{ids_below}
use Rattle.pf_agg.proofs.GroupElements.{groups_are}
use Rattle.pf_agg.proofs.groups.groups_of.Goals as goal

abbrev bucket : Vec (Bor Element) Global → List Element
bucket b = map (λ e. e.now) b.items

pub buckets_by_place-requires-clause-alike : goal.buckets_by_place-requires-clause-alike
buckets_by_place-requires-clause-alike c =
    let key = group_key c.args.grouping.now.without c.args.grouping.now.labels in
    let ls = columns_labels c.deref.result.now in
    let labels : ls ≡ labels_of c.args.elements.now = ap (λ cs. columns_labels cs) c.deref.ensures.value ∙ c.in_ok-columns.ensures in
    ap length (c.deref-3.ensures.value ∙ ap (λ g. g.of) (c.ids.view_is ∙ c.in_ok-ids.ensures))
    ∙ length-map (map key ls) (place_in (distinct (map key ls))) ∙ length-map ls key ∙ ap length labels ∙ length-map c.args.elements.now (λ e. e.labels)

pub buckets_by_place-requires-clause-within : goal.buckets_by_place-requires-clause-within
buckets_by_place-requires-clause-within c =
    let ls = columns_labels c.deref.result.now in
    let ks = map (group_key c.args.grouping.now.without c.args.grouping.now.labels) ls in
    let keys = c.deref-2.ensures.value ∙ ap (λ g. g.keys) (c.ids.view_is ∙ c.in_ok-ids.ensures) in
    let places = c.deref-3.ensures.value ∙ ap (λ g. g.of) (c.ids.view_is ∙ c.in_ok-ids.ensures) in
    subst (λ xs. All (λ o. o < length xs) c.deref-3.result.now) (sym keys)
    (subst (All (λ o. o < length (distinct ks))) (sym places) (ids_below ks))

pub returns-clause-groups : goal.returns-clause-groups
returns-clause-groups c =
    let key = group_key c.args.grouping.now.without c.args.grouping.now.labels in
    let es = c.args.elements.now in
    let places = c.deref-3.result.now in
    let labels : columns_labels c.deref.result.now ≡ labels_of es = ap (λ cs. columns_labels cs) c.deref.ensures.value ∙ c.in_ok-columns.ensures in
    groups_are key es (columns_labels c.deref.result.now) c.ids.inside.keys.items places (map bucket c.in_ok-buckets.buckets.items) labels
    (ap (λ g. g.keys) (c.ids.view_is ∙ c.in_ok-ids.ensures))
    (c.deref-3.ensures.value ∙ ap (λ g. g.of) (c.ids.view_is ∙ c.in_ok-ids.ensures))
    (c.in_ok-buckets.ensures ∙ ap (λ ks. below (λ g. those_of g places es) (length ks)) c.deref-2.ensures.value)

pub returns-clause-alike : goal.returns-clause-alike
returns-clause-alike c =
    sym (length-map c.in_ok-buckets.buckets.items bucket) ∙ ap length c.in_ok-buckets.ensures
    ∙ length_below (λ g. those_of g c.deref-3.result.now c.args.elements.now) (length c.deref-2.result.now) ∙ ap length c.deref-2.ensures.value
