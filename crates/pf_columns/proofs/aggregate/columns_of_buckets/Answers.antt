use Rattle.std.proofs.Common.{◌<◌, List, map, length, Bor, Vec, Global, ap, sym, ◌∙◌, subst}
use Rattle.pf_model.specs.Cells.{values_of}
use Rattle.pf_model.specs.Merging.{below}
use Rattle.pf_columns.specs.Columns.{ColumnData, cell_at}
use Rattle.pf_columns.specs.Groups.{found_at}
use Rattle.pf_columns.proofs.GroupColumns.{bucket_next}
use Rattle.pf_columns.proofs.aggregate.columns_of_buckets.Goals as goal

abbrev columns : Vec (Bor ColumnData) Global → List ColumnData
columns b = map (λ c. c.now) b.items

pub loop-i-preserved : goal.loop-i-preserved
loop-i-preserved c =
    let f = found_at c.args.function.now in
    let here : c.loop-i.i < length c.args.keys.now = c.loop-i-test.true in
    bucket_next f columns c.args.len _ _ _ c.args.buckets.now c.args.keys.now c.loop-i.i c.index-buckets-i.result c.index-keys-i.result _
    (subst (λ n. c.loop-i.i < n) (sym c.requires) here) here c.index-buckets-i.is c.index-keys-i.is
    (c.in_ok-column_of_bucket.ensures
    ∙ ap (λ cs. record { labels = c.index-keys-i.result; values = below (λ k. f k (values_of (cell_at (map (λ d. d.now) cs) k))) c.args.len }) c.deref.ensures.value)
    c.in_ok-push.ensures.items c.loop-i.invariant
