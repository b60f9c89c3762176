use Rattle.std.proofs.Common.{sym, ap, ◌∙◌}
use Rattle.pf_base.specs.LabelSets.{value_of}
use Rattle.pf_selectors.proofs.NumberedSeries.{noted_alike}
use Rattle.pf_selectors.proofs.grouping.note_alike.Goals as goal

pub returns : goal.returns
returns c =
    let g = c.args.grouping.now in
    let name = c.in-Some.name.now in
    let of = c.get-value.ensures ∙ ap (λ l. value_of l name) c.labels.ensures in
    let some = sym c.is_empty-2.ensures ∙ c.if-is_empty-2.false in
    λ keys there is old.
    noted_alike g.without g.labels name c.get-value.result.now c.args.snap.now.labels keys c.args.known.now.items c.note.new.known.items c.postings.result c.args.id c.args.number
    c.in-Some.ensures.without c.in-Some.ensures.labels c.series_count-count.ensures.labels c.requires of some c.postings.ensures c.note.ensures.count c.note.ensures.noted there is old
