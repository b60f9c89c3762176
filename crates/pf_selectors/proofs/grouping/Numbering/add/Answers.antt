use Rattle.std.proofs.Common.{◌++◌, ◌∷◌, [], ap, ◌∙◌}
use Rattle.pf_model.specs.Aggregation.{group_key}
use Rattle.pf_selectors.proofs.NumberedSeries.{numbered_more}
use Rattle.pf_selectors.proofs.grouping.Numbering.add.Goals as goal

pub returns-clause-numbered : goal.returns-clause-numbered
returns-clause-numbered c =
    let g = c.args.grouping.now in
    λ done d.
    numbered_more (group_key g.without g.labels) c.args.snap.now.labels c.args.self.now.keys.items c.number.new.self.keys.items done c.args.self.now.numbers.items c.push.new.self.items c.args.id c.in_ok-number.number
    c.in_ok-number.ensures.adds (c.in_ok-push.ensures.items ∙ ap (λ ns. ns ++ c.in_ok-number.number ∷ []) c.in_ok-number.ensures.numbers) d
