use Rattle.std.proofs.Common.{◌-ℤ◌, pos, ap, sym, ◌∙◌}
use Rattle.pf_model.specs.Cells.{cell_of}
use Rattle.pf_model.specs.Evaluation.{windows}
use Rattle.pf_model.specs.Outcomes.{of_series}
use Rattle.pf_selectors.specs.Passing.{rows_passing}
use Rattle.pf_selectors.specs.Times.{time_at}
use Rattle.pf_selectors.proofs.PassingSeries.{absence_passing, ranged_passing}
use Rattle.pf_selectors.proofs.RangeCells.{absence_is, ranged_is}
use Rattle.pf_selectors.proofs.windows.ranged.Goals as goal

pub returns-in_ok-found-in-AbsentOverTime-clause-all : goal.returns-in_ok-found-in-AbsentOverTime-clause-all
returns-in_ok-found-in-AbsentOverTime-clause-all c = λ samples ms stands apart e k h.
    let times = c.args.times.now in
    let range = c.args.range in
    let from = time_at times k -ℤ pos range in
    let to = time_at times k in
    c.in_ok-found-in-AbsentOverTime.ensures k h
    ∙ ap cell_of (absence_is range c.args.snap.now times c.args.ids.now k c.series_count-count.ensures.snap samples ms stands apart e c.args.absent.now)
    ∙ ap (λ f. cell_of (of_series f c.args.absent.now from to (windows samples ms from to))) (sym c.in-AbsentOverTime.is)

pub returns-in_ok-found-in-AbsentOverTime-clause-passing : goal.returns-in_ok-found-in-AbsentOverTime-clause-passing
returns-in_ok-found-in-AbsentOverTime-clause-passing c = λ samples ms passes stands apart e k h.
    let times = c.args.times.now in
    let range = c.args.range in
    let from = time_at times k -ℤ pos range in
    let to = time_at times k in
    c.in_ok-found-in-AbsentOverTime.ensures k h
    ∙ ap cell_of (absence_passing passes c.args.snap.now samples ms c.series_count-count.ensures.snap stands apart range times c.args.ids.now k e c.args.absent.now)
    ∙ ap (λ f. cell_of (of_series f c.args.absent.now from to (windows (rows_passing passes samples) ms from to))) (sym c.in-AbsentOverTime.is)

pub returns-in_ok-found-in_default-clause-all : goal.returns-in_ok-found-in_default-clause-all
returns-in_ok-found-in_default-clause-all c = λ samples ms stands apart e k h.
    c.in_ok-found-in_default.ensures k h
    ∙ ap cell_of (ranged_is c.args.range c.args.snap.now c.args.times.now c.args.ids.now k h c.series_count-count.ensures.snap samples ms stands apart e c.args.f c.args.absent.now c.in_default.not-AbsentOverTime)

pub returns-in_ok-found-in_default-clause-passing : goal.returns-in_ok-found-in_default-clause-passing
returns-in_ok-found-in_default-clause-passing c = λ samples ms passes stands apart e k h.
    c.in_ok-found-in_default.ensures k h
    ∙ ap cell_of (ranged_passing passes c.args.snap.now samples ms c.series_count-count.ensures.snap stands apart c.args.range c.args.times.now c.args.ids.now k e h c.args.f c.args.absent.now c.in_default.not-AbsentOverTime)
