use Rattle.std.proofs.Common.{None, get_or, ap, sym, ◌∙◌}
use Rattle.pf_model.specs.Aggregation.{group_key}
use Rattle.pf_selectors.proofs.NumberedSeries.{adds_none}
use Rattle.pf_selectors.specs.Grouping.{key_at}
use Rattle.pf_selectors.proofs.grouping.Numbering.number.Goals as goal

pub returns-in-Some-clause-adds : goal.returns-in-Some-clause-adds
returns-in-Some-clause-adds c =
    let g = c.args.grouping.now in
    let key = group_key g.without g.labels in
    let is = ap (λ ns. get_or ns c.args.id None) (sym c.deref.ensures.value) ∙ sym c.noted.ensures ∙ c.in-Some.is in
    adds_none (key_at key c.args.snap.now.labels c.args.id) c.args.self.now.keys.items c.in-Some.number (c.requires.noted.within c.args.id c.in-Some.number is)
    (c.requires.noted.same c.args.id c.in-Some.number is)
