use Rattle.pf_columns.proofs.JoinedCells.{of_both}
use Rattle.pf_columns.proofs.joining.+stretch_over.Goals as goal

pub returns-clause-columns : goal.returns-clause-columns
returns-clause-columns t c =
    of_both c.args.parts.now c.halved-half.result.front.now c.halved-half.result.behind.now c.in_ok-first.first.len c.in_ok-first.first.columns.items c.in_ok-second.second.columns.items c.in_ok-columns-2.columns.items
    c.halved-half.ensures.all c.in_ok-first.ensures.many c.in_ok-first.ensures.columns c.in_ok-second.ensures.columns c.in_ok-columns-2.ensures
