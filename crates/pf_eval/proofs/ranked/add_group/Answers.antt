use Rattle.std.proofs.Common.{◌++◌, List, map, ap, ◌∙◌}
use Rattle.pf_columns.specs.Columns.{ColumnData}
use Rattle.pf_columns.specs.Ranks.{labelled}
use Rattle.pf_columns.proofs.EachGroup.{labelled_first}
use Rattle.pf_eval.specs.Ranked.{column_at}
use Rattle.pf_eval.proofs.RankedSeries.{bare_placed, labels_placed}
use Rattle.pf_eval.proofs.ranked.add_group.Goals as goal

pub returns : goal.returns
returns c =
    let s = c.args.snap.now in
    let times = c.args.times.now in
    let ids = c.args.ids.now in
    let places = c.args.places.now in
    let cs : List ColumnData = map (column_at s times ids) places in
    c.in_ok-add_labelled.ensures
    ∙ ap (λ ds. c.args.found.now.items ++ ds)
    ((λ i. labelled (labels_placed s times ids places i) (c.in_ok-first.ensures i))
    ∙ labelled_first c.args.rank c.args.params.now cs c.in_ok-columns.columns.items times.len (c.in_ok-columns.ensures ∙ bare_placed s times ids places))
