use Rattle.std.proofs.Common.{ap, ◌∙◌}
use Rattle.pf_model.specs.Cells.{cell_of}
use Rattle.pf_model.specs.Outcomes.{of_cell}
use Rattle.pf_columns.specs.Columns.{cell_at, value_in}
use Rattle.pf_columns.specs.Steps.{bad_in, unless_bad}
use Rattle.pf_eval.specs.Nodes.{altered, first_of}
use Rattle.pf_eval.specs.declared.change.Change.TheVariants as change
use Rattle.pf_eval.proofs.Changes.{left_step}
use Rattle.pf_eval.proofs.operation.beside_left.Goals as goal

pub returns : goal.returns
returns c =
    let l = c.args.left in
    let r = c.args.right in
    λ k h. ap of_cell (c.in_ok-found.ensures k h)
    ∙ (λ i. of_cell (unless_bad ((c.in_ok-bads.ensures k h ∙ λ j. first_of (bad_in l.bads.items k) (bad_in ((ap (λ d. d.bads) c.right.view_is) j) k)) i)
    (cell_of (altered (change.Left c.args.op) (value_in (c.deref.ensures.value i) k) (cell_at ((c.deref-2.ensures.value ∙ ap (λ d. d.columns) c.right.view_is) i) k)))))
    ∙ left_step c.args.op c.args.matching.now (bad_in l.bads.items k) (bad_in r.bads k) (value_in l.values.items k) (cell_at r.columns k)
