use Rattle.std.proofs.Common.{◌≡◌, length, ap, sym, ◌∙◌}
use Rattle.std.specs.Arc.{arc_value}
use Rattle.pf_base.specs.Grids.{points}
use Rattle.pf_base.proofs.GridTimes.{length-times_from}
use Rattle.pf_model.specs.Direct.{gather}
use Rattle.pf_columns.specs.Columns.{rows_in, timed}
use Rattle.pf_columns.proofs.GatheredRows.{gather_is}
use Rattle.pf_columns.proofs.Parts.{length_cells}
use Rattle.pf_columns.proofs.cells.Cells.gather.Goals as goal

pub returns : goal.returns
returns c =
    let s = c.self.inside in
    let g = c.args.grid.now in
    let cs = (arc_value s.columns).items in
    let many : length (points g) ≡ s.len =
    length-times_from g.start g.step g.len ∙ sym c.requires ∙ ap length (sym c.self.view_is) ∙ length_cells cs s.from s.len in
    c.in_ok-rows.ensures ∙ ap (rows_in (points g) s.from) (c.deref-2.ensures.value ∙ ap (λ v. v.items) c.deref.ensures)
    ∙ sym (gather_is cs c.self.invariant.0 (points g) s.from s.len many)
    ∙ ap (λ cells. gather (timed (points g) cells)) c.self.view_is
