use Rattle.std.proofs.Common.{◌≡◌, ◌++◌, ◌∷◌, [], map, ap, ◌∙◌}
use Rattle.pf_model.specs.Matching.{matching_key}
use Rattle.pf_eval.specs.Zipped.{met_among, met_column, partners}
use Rattle.pf_eval.proofs.LoopSteps.{map_more}
use Rattle.pf_eval.proofs.pairing.met.Goals as goal

pub loop-column-preserved : goal.loop-column-preserved
loop-column-preserved c =
    let m = c.args.matching.now in
    let os = c.args.others.now in
    let column = c.column-item.result in
    let matches : map (λ d. d.now) c.deref.result.now ≡ partners m (matching_key m column.labels) os =
    ap (map (λ d. d.now)) c.deref.ensures.value ∙ c.in_ok-matches.ensures m c.in_ok-places.ensures
    ∙ ap (λ k. partners m k os) c.in_ok-key.ensures
    ∙ ap (λ d. partners m (matching_key m d.labels) os) c.column.view_is in
    map_more (met_column c.args.wanted m c.args.len os) c.args.columns.now c.loop-column.column-index column c.loop-column.found.items c.push.new.self.items
    c.loop-column-test.true c.column-item.is
    (c.in_ok-push.ensures.items ∙ ap (λ d. c.loop-column.found.items ++ (d ∷ [])) (c.in_ok-met_column.ensures ∙ ap (λ ds. met_among c.args.wanted c.args.len ds column) matches))
    c.loop-column.invariant
