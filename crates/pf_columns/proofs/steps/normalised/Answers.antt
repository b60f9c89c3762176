use Rattle.std.proofs.Common.{None, ap, sym, ◌∙◌}
use Rattle.pf_columns.specs.Columns.{columns_labels}
use Rattle.pf_columns.specs.Steps.{bad_in, rise_above, unless_bad}
use Rattle.pf_columns.proofs.Rising.{rise_is, cell_rising}
use Rattle.pf_columns.proofs.steps.normalised.Goals as goal

pub returns-then-is_rising-clause-steps : goal.returns-then-is_rising-clause-steps
returns-then-is_rising-clause-steps c =
    let cs = c.args.columns.items in
    let rising = rise_is (columns_labels cs) (ap (λ ds. rise_above None (columns_labels ds)) (sym c.deref.ensures.value) ∙ sym c.if-is_rising.ensures) in
    λ k h. ap (unless_bad (bad_in c.args.bads.items k)) (cell_rising k cs rising)
