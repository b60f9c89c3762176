use Rattle.std.proofs.Common.{◌≡◌, ap, ◌∙◌}
use Rattle.pf_model.specs.Cells.{cell_of}
use Rattle.pf_model.specs.Outcomes.{of_cell}
use Rattle.pf_columns.specs.Columns.{cell_at}
use Rattle.pf_columns.specs.Steps.{bad_in, unless_bad}
use Rattle.pf_eval.specs.Nodes.{first_of}
use Rattle.pf_eval.specs.Zipped.{set_columns}
use Rattle.pf_eval.proofs.JoinedCells.{set_step}
use Rattle.pf_eval.proofs.pairing.set_operation.Goals as goal

pub returns : goal.returns
returns c =
    let l = c.args.left in
    let r = c.args.right in
    let m = c.args.matching.now in
    let s = c.args.op.sign in
    let cols : c.in_ok-columns.columns.items ≡ set_columns s m c.args.len l.columns r.columns =
    c.in_ok-columns.ensures ∙ (λ i. set_columns s m c.args.len ((ap (λ d. d.columns) c.left.view_is) i) ((c.deref.ensures.value ∙ ap (λ d. d.columns) c.right.view_is) i)) in
    λ k h. ap of_cell (c.in_ok-found.ensures.steps k h)
    ∙ (λ i. of_cell (unless_bad ((c.in_ok-bads.ensures k h ∙ λ j. first_of (bad_in ((ap (λ d. d.bads) c.left.view_is) j) k) (bad_in ((ap (λ d. d.bads) c.right.view_is) j) k)) i) (cell_of (cell_at (cols i) k))))
    ∙ set_step c.args.op m c.args.len k h (bad_in l.bads k) (bad_in r.bads k) l.columns r.columns c.requires
