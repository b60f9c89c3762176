use Rattle.std.proofs.Common.{ap, ◌∙◌, sym}
use Rattle.pf_model.specs.Cells.{cell_of}
use Rattle.pf_model.proofs.SelectorLabels.{selector_is_cell}
use Rattle.pf_selectors.specs.Passing.{rows_passing}
use Rattle.pf_selectors.specs.Times.{time_at}
use Rattle.pf_selectors.specs.declared.instant.Reading.TheVariants as reading
use Rattle.pf_selectors.proofs.PassingSeries.{values_passing}
use Rattle.pf_selectors.proofs.ReadCells.{columns_are, selected_is}
use Rattle.pf_selectors.proofs.instant.selected.Goals as goal

pub returns-clause-all : goal.returns-clause-all
returns-clause-all c =
    let s = c.args.snap.now in
    let times = c.args.times.now in
    let snap = c.in_ok-found.ensures.snap in
    λ samples ms stands e k h.
    c.in_ok-found.ensures.cells k h
    ∙ ap cell_of (columns_are reading.Value s ms times c.args.ids.now k h snap e ∙ sym (selected_is s samples ms snap stands (time_at times k)))
    ∙ selector_is_cell samples ms (time_at times k)

pub returns-clause-passing : goal.returns-clause-passing
returns-clause-passing c =
    let times = c.args.times.now in
    λ samples ms passes stands e k h.
    c.in_ok-found.ensures.cells k h
    ∙ ap cell_of (values_passing passes c.args.snap.now samples ms c.in_ok-found.ensures.snap stands times c.args.ids.now k h e)
    ∙ selector_is_cell (rows_passing passes samples) ms (time_at times k)
