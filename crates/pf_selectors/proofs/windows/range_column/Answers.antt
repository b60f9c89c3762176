use Rattle.std.proofs.Common.{ap, ◌∙◌}
use Rattle.pf_block.specs.Snaps.{samples_of}
use Rattle.pf_model.specs.Outcomes.{ranged_labels}
use Rattle.pf_selectors.proofs.RunValues.{over_alike}
use Rattle.pf_selectors.proofs.windows.range_column.Goals as goal

pub returns : goal.returns
returns c =
    let f = c.args.f in
    let labels = c.in_ok-labels_over.ensures ∙ ap (ranged_labels f) c.labels.ensures in
    let values =
    c.in_ok-values_over.ensures
    ∙ over_alike f c.args.range c.args.times.now (samples_of c.args.snap.now c.args.id) c.in_ok-samples.samples.now c.in_ok-samples.ensures.windows in
    λ i. record { labels = labels i; values = values i }
