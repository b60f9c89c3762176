use Rattle.std.proofs.Common.{◌≡◌, true, None, map, ap, sym, ◌∙◌}
use Rattle.pf_model.specs.Cells.{cell_of}
use Rattle.pf_model.specs.Outcomes.{of_cell, operation}
use Rattle.pf_columns.specs.Columns.{cell_at, columns_labels}
use Rattle.pf_columns.specs.Steps.{bad_in, step_at, unless_bad}
use Rattle.pf_columns.proofs.Below.{read_below}
use Rattle.pf_eval.specs.Nodes.{first_of}
use Rattle.pf_join.specs.KeyPlaces.{key_of}
use Rattle.pf_eval.specs.Zipped.{are_apart, are_single, column_keys, kind_of, zipped}
use Rattle.pf_eval.proofs.JoinedCells.{apart_placed, pairs_step, single_step}
use Rattle.pf_eval.proofs.pairing.pair_bads.Goals as goal

pub returns-then-branch : goal.returns-then-branch
returns-then-branch c =
    let l = c.args.left in
    let r = c.args.right in
    let m = c.args.matching.now in
    let single : are_single m l.columns r.columns (zipped c.args.op m c.args.len l.columns r.columns) ≡ true =
    (λ i. are_apart m.side (column_keys m l.columns) (column_keys m r.columns) (columns_labels (sym c.requires.pairs i)))
    ∙ sym (apart_placed m.side (column_keys m l.columns) (column_keys m r.columns) (columns_labels c.args.pairs.now))
    ∙ (λ i. are_apart (sym (ap (λ x. x.side) c.matching.view_is) i) (sym c.requires.keys i) (map key_of (sym c.requires.places i)) (columns_labels c.args.pairs.now))
    ∙ sym c.in_ok-are_single.ensures ∙ c.if-branch.true in
    λ k h.
    (λ i. of_cell (unless_bad ((c.in_ok-found.ensures k h ∙ λ j. first_of (bad_in ((ap (λ d. d.bads) c.left.view_is) j) k) (bad_in ((ap (λ d. d.bads) c.right.view_is) j) k)) i) (cell_of (cell_at (c.requires.pairs i) k))))
    ∙ single_step c.args.op m c.args.len k h (bad_in l.bads k) (bad_in r.bads k) l.columns r.columns c.requires.paired single

pub returns : goal.returns
returns c =
    let l = c.args.left in
    let r = c.args.right in
    let m = c.args.matching.now in
    λ k h.
    (λ i. of_cell (unless_bad (read_below None c.in_ok-found-2.found.items (λ j. kind_of (operation c.args.op m (of_cell (step_at l j)) (of_cell (step_at r j)))) c.args.len k c.in_ok-found-2.ensures h i) (cell_of (cell_at (c.requires.pairs i) k))))
    ∙ pairs_step c.args.op m c.args.len k h (bad_in l.bads k) (bad_in r.bads k) l.columns r.columns c.requires.paired
