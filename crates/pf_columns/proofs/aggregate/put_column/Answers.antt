use Rattle.std.proofs.Common.{◌++◌, ◌∷◌, [], List, map, Bor, Vec, Global, ap, sym, ◌∙◌}
use Rattle.std.specs.Prelude.{slice_set}
use Rattle.std.proofs.lemmas.List.{get_or-map, map-set}
use Rattle.pf_columns.specs.Columns.{ColumnData}
use Rattle.pf_columns.proofs.GroupColumns.{map_snoc}
use Rattle.pf_columns.proofs.aggregate.put_column.Goals as goal

abbrev now : Bor ColumnData → ColumnData
now c = c.now

abbrev bucket : Vec (Bor ColumnData) Global → List ColumnData
bucket b = map now b.items

pub returns : goal.returns
returns c =
    let xs = c.args.buckets.now.items in
    let i = c.args.place in
    let old = c.index_mut.result.now in
    map-set bucket xs i c.push.new.self
    ∙ ap (slice_set (map bucket xs) i)
    (ap (map now) c.in_ok-push.ensures.items ∙ map_snoc now old.items c.args.column
    ∙ ap (λ b. bucket b ++ (c.args.column.now ∷ [])) c.index_mut.ensures.value
    ∙ ap (λ cs. cs ++ (c.args.column.now ∷ [])) (sym (get_or-map bucket xs i old [] c.requires)))
