use Rattle.std.proofs.Common.{◌≡◌, ◌∙◌, subst, sym, rules, to_z, of_z, w64}
use Rattle.pf_range.specs.Windows.{IsTime}
use Rattle.pf_selectors.proofs.StepTimes.{parts_fit}
use Rattle.pf_selectors.proofs.times.Times.at.Goals as goal

pub overflow_add-result : goal.overflow_add-result
overflow_add-result c =
    let t = c.args.self.now in
    let a : to_z w64 (of_z w64 t.start) ≡ t.start = search rules in
    let b : to_z w64 (of_z w64 c.away.result) ≡ c.away.result = search rules in
    parts_fit t c.args.step _ _ c.requires.below c.requires.times a (b ∙ c.away.ensures)

pub returns-clause-value : goal.returns-clause-value
returns-clause-value c = search rules

pub returns-clause-within : goal.returns-clause-within
returns-clause-within c = subst IsTime (sym (returns-clause-value c)) (c.requires.times c.args.step c.requires.below)
