use Rattle.std.proofs.Common.{arith, ap, ◌∙◌}
use Rattle.std.proofs.lemmas.Grind.{common_steps}
use Rattle.pf_model.specs.Aggregation.{group_key}
use Rattle.pf_selectors.proofs.NumberedSeries.{adds_one, noted_on}
use Rattle.pf_selectors.proofs.grouping.Numbering.made.Goals as goal
use Rattle.pf_selectors.specs.Grouping.{Adds, key_at}

pub returns-clause-adds : goal.returns-clause-adds
returns-clause-adds c =
    let g = c.args.grouping.now in
    let key = group_key g.without g.labels in
    adds_one (key_at key c.args.snap.now.labels c.args.id) c.in_ok-key.key c.args.self.now.keys.items c.push.new.self.items c.len-number.result
    (c.in_ok-key.ensures ∙ ap key c.labels.ensures) c.in_ok-push.ensures.items (omega (arith, c.len-number.ensures, c.args.self.now.keys.ok.0))

pub returns-clause-noted : goal.returns-clause-noted
returns-clause-noted c =
    let g = c.args.grouping.now in
    let key = group_key g.without g.labels in
    let ls = c.args.snap.now.labels in
    let adds : Adds (key_at key ls c.args.id) c.args.self.now.keys.items c.push.new.self.items c.len-number.result =
    adds_one (key_at key ls c.args.id) c.in_ok-key.key c.args.self.now.keys.items c.push.new.self.items c.len-number.result
    (c.in_ok-key.ensures ∙ ap key c.labels.ensures) c.in_ok-push.ensures.items (omega (arith, c.len-number.ensures, c.args.self.now.keys.ok.0)) in
    c.note_alike.ensures c.push.new.self.items adds.within adds.is
    (noted_on key ls c.args.self.now.keys.items c.push.new.self.items c.in_ok-key.key c.args.self.now.noted.items c.in_ok-push.ensures.items c.requires.noted)

pub returns-clause-numbers : goal.returns-clause-numbers
returns-clause-numbers c = grind (arith, common_steps)
