use Rattle.std.proofs.Common.{ap, ◌∙◌}
use Rattle.pf_model.specs.Cells.{cell_of}
use Rattle.pf_selectors.proofs.PassingSeries.{times_passing}
use Rattle.pf_selectors.proofs.TimedCells.{times_are}
use Rattle.pf_selectors.proofs.instant.sample_times.Goals as goal

pub returns-clause-all : goal.returns-clause-all
returns-clause-all c =
    λ samples ms stands e k h.
    c.in_ok-found.ensures.cells k h
    ∙ ap cell_of (times_are c.args.snap.now ms c.args.times.now c.args.ids.now k h c.in_ok-found.ensures.snap samples stands e)

pub returns-clause-passing : goal.returns-clause-passing
returns-clause-passing c =
    λ samples ms passes stands e k h.
    c.in_ok-found.ensures.cells k h
    ∙ ap cell_of (times_passing passes c.args.snap.now samples ms c.in_ok-found.ensures.snap stands c.args.times.now c.args.ids.now k h e)
