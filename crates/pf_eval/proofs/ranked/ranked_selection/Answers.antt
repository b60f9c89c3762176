use Rattle.std.proofs.Common.{rules, ◌<◌, Some, None, subst, ap, sym, ◌∙◌}
use Rattle.std.proofs.lemmas.List.{get_or-replicate}
use Rattle.pf_model.specs.Aggregation.{aggregate}
use Rattle.pf_model.specs.Evaluation.{selected}
use Rattle.pf_model.specs.Outcomes.{elements, of_cell}
use Rattle.pf_columns.specs.Columns.{value_in}
use Rattle.pf_columns.specs.Ranks.{ranking}
use Rattle.pf_selectors.proofs.AcceptedSeries.{accepted_cell, accepted_rise}
use Rattle.pf_eval.proofs.ranked.ranked_selection.Goals as goal

pub returns-clause-value : goal.returns-clause-value
returns-clause-value c = λ samples ms stands accepted k h.
    let s = c.args.snap.now in
    let ids = c.args.ids.now in
    let snap = c.series_count-count.ensures.snap in
    let read = c.read_times-read.result in
    let within : k < read.len = subst (λ n. k < n) (sym c.read_times-read.ensures.len) h in
    let param = ap (λ vs. value_in vs k) (c.deref.ensures.value ∙ c.in_ok-params.ensures.items_if_clones_equal (search rules)) ∙ get_or-replicate read.len k (Some c.args.param) None within in
    let es = accepted_cell s ms ids snap accepted samples stands read k within ∙ ap (selected samples ms) (c.read_times-read.ensures.times k h) in
    ap of_cell (c.in_ok-found.ensures (accepted_rise s ms ids snap accepted) k within)
    ∙ (λ i. elements (aggregate (ranking c.args.rank) c.args.grouping.now.without c.args.grouping.now.labels (param i) (es i)))
