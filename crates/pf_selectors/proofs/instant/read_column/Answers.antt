use Rattle.std.proofs.Common.{ap, ◌∙◌}
use Rattle.pf_selectors.specs.SeriesColumns.{labels_read}
use Rattle.pf_selectors.proofs.instant.read_column.Goals as goal

pub returns : goal.returns
returns c =
    let labels = c.in_ok-labels.ensures ∙ ap (labels_read c.args.reading) c.labels.ensures in
    let values = c.in_ok-read_steps.ensures in
    λ i. record { labels = labels i; values = values i }
