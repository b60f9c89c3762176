use Rattle.std.proofs.Common.{sym, ap, ◌∙◌}
use Rattle.pf_base.specs.LabelSets.{value_of}
use Rattle.pf_block.specs.SeriesIds.{ids_with}
use Rattle.pf_index.specs.Listing.{labels_at}
use Rattle.pf_index.proofs.Sieved.{known_noted, said}
use Rattle.pf_index.proofs.sieving.Verdicts.of.Goals as goal

pub returns-then-self-gt0-clause-value : goal.returns-then-self-gt0-clause-value
returns-then-self-gt0-clause-value c =
    let m = c.args.matcher.now in
    said m _ c.get-value.result.now (labels_at c.args.snap.now.labels c.args.id) c.holds-verdict.result (c.requires.asked.1 m)
    (c.get-value.ensures ∙ (λ i. value_of (c.labels.ensures i) (c.as_str-name.ensures i))) (c.holds-verdict.ensures.value m)

pub returns-then-self-gt0-clause-known : goal.returns-then-self-gt0-clause-known
returns-then-self-gt0-clause-known c =
    let m = c.args.matcher.now in
    let ls = c.args.snap.now.labels in
    known_noted m ls c.args.self.now.by_series.items c.note.new.known.items c.args.self.now.without c.get-value.result.now c.postings.result c.holds-verdict.result
    c.series_count-count.ensures.labels (c.holds-verdict.ensures.value m ∙ sym (ap (λ x. Rattle.pf_model.specs.Selection.holds x.sign c.get-value.result.now x.text) (c.requires.asked.1 m)))
    (c.postings.ensures ∙ ap (λ n. ids_with n c.get-value.result.now ls) c.as_str-name.ensures) c.note.ensures.count c.note.ensures.noted c.requires.known

pub returns-else-self-gt0-clause-value : goal.returns-else-self-gt0-clause-value
returns-else-self-gt0-clause-value c =
    let m = c.args.matcher.now in
    said m _ c.get-value.result.now (labels_at c.args.snap.now.labels c.args.id) c.holds-verdict.result (c.requires.asked.1 m)
    (c.get-value.ensures ∙ (λ i. value_of (c.labels.ensures i) (c.as_str-name.ensures i))) (c.holds-verdict.ensures.value m)
