use Rattle.std.proofs.Common.{ap, ◌∙◌}
use Rattle.pf_model.specs.Cells.{cell_of}
use Rattle.pf_model.specs.Outcomes.{of_cell}
use Rattle.pf_columns.specs.Columns.{cell_at, value_in}
use Rattle.pf_columns.specs.Steps.{bad_in, unless_bad}
use Rattle.pf_eval.specs.Nodes.{altered, first_of}
use Rattle.pf_eval.specs.declared.change.Change.TheVariants as change
use Rattle.pf_eval.proofs.Changes.{right_step}
use Rattle.pf_eval.proofs.operation.beside_right.Goals as goal

pub returns : goal.returns
returns c =
    let l = c.args.left in
    let r = c.args.right in
    λ k h. ap of_cell (c.in_ok-found.ensures k h)
    ∙ (λ i. of_cell (unless_bad ((c.in_ok-bads.ensures k h ∙ λ j. first_of (bad_in ((ap (λ d. d.bads) c.left.view_is) j) k) (bad_in r.bads.items k)) i)
    (cell_of (altered (change.Right c.args.op) (value_in (c.deref.ensures.value i) k) (cell_at ((c.deref-2.ensures.value ∙ ap (λ d. d.columns) c.left.view_is) i) k)))))
    ∙ right_step c.args.op c.args.matching.now (bad_in l.bads k) (bad_in r.bads.items k) (value_in r.values.items k) (cell_at l.columns k)
