use Rattle.std.proofs.Common.{List, map, length, Bor, Vec, Global, ap, sym, ◌∙◌}
use Rattle.std.proofs.lemmas.List.{length-map}
use Rattle.pf_columns.specs.Columns.{ColumnData}
use Rattle.pf_columns.specs.Groups.{bucket_columns, found_at, those_of}
use Rattle.pf_columns.proofs.GroupColumns.{buckets_are}
use Rattle.pf_columns.proofs.Below.{length_below}
use Rattle.pf_columns.proofs.aggregate.columns_by_place.Goals as goal

abbrev bucket : Vec (Bor ColumnData) Global → List ColumnData
bucket b = map (λ c. c.now) b.items

pub columns_of_buckets-requires : goal.columns_of_buckets-requires
columns_of_buckets-requires c =
    sym (length-map c.deref.result.now bucket) ∙ ap (λ bs. length (map bucket bs)) c.deref.ensures.value ∙ ap length c.in_ok-buckets.ensures
    ∙ length_below (λ g. those_of g c.args.places.now c.args.columns.now) (length c.args.keys.now)

pub returns : goal.returns
returns c =
    let f = found_at c.args.function.now in
    c.in_ok-found.ensures
    ∙ ap (λ bs. bucket_columns f (map bucket bs) c.args.len c.args.keys.now) c.deref.ensures.value
    ∙ ap (λ bs. bucket_columns f bs c.args.len c.args.keys.now) c.in_ok-buckets.ensures
    ∙ buckets_are f c.args.places.now c.args.columns.now c.args.len c.args.keys.now
