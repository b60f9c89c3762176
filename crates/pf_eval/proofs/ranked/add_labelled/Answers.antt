use Rattle.std.proofs.Common.{◌≡◌, ◌++◌, [], append-nil, drop, map, sym, ap, ◌∙◌, arith}
use Rattle.std.proofs.lemmas.Grind.{common_steps}
use Rattle.std.proofs.lemmas.List.{drop_all}
use Rattle.std.specs.Vec.Iter.{into_iter_items}
use Rattle.pf_columns.specs.Ranks.{labelled}
use Rattle.pf_eval.specs.Ranked.{labels_at}
use Rattle.pf_eval.proofs.RankedSeries.{labelled_none}
use Rattle.pf_eval.proofs.ranked.add_labelled.Goals as goal

-- no place is left
pub returns : goal.returns
returns c =
    let i = c.loop-place.place-index in
    let places = c.args.places.now in
    let labels = labels_at c.args.snap.now c.args.ids.now in
    let rest = into_iter_items c.loop-place.rest in
    let none : labelled (map labels (drop i places)) rest ≡ [] =
    ap (λ ps. labelled (map labels ps) rest) (drop_all i places c.loop-place-test.false) ∙ labelled_none rest in
    sym (ap (λ ds. c.loop-place.found.items ++ ds) none ∙ append-nil c.loop-place.found.items) ∙ c.loop-place.invariant.done

pub loop-place-preserved : goal.loop-place-preserved
loop-place-preserved c = grind (arith, common_steps)
