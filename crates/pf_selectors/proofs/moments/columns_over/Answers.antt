use Rattle.std.proofs.Common.{ap, ◌∙◌}
use Rattle.pf_columns.specs.Columns.{cell_at}
use Rattle.pf_selectors.proofs.SubqueryCells.{absence_over, each_over}
use Rattle.pf_selectors.proofs.moments.columns_over.Goals as goal

pub returns-in_ok-found-in-AbsentOverTime : goal.returns-in_ok-found-in-AbsentOverTime
returns-in_ok-found-in-AbsentOverTime c = λ k h.
    c.in_ok-found-in-AbsentOverTime.ensures k h
    ∙ absence_over c.args.range c.args.at.now c.args.times.now k c.args.f c.args.absent.now c.args.columns.now c.in-AbsentOverTime.is

pub returns-in_ok-found-in_default : goal.returns-in_ok-found-in_default
returns-in_ok-found-in_default c = λ k h.
    ap (λ cs. cell_at cs k) c.in_ok-found-in_default.ensures
    ∙ each_over c.args.range c.args.at.now c.args.times.now k c.args.f c.args.absent.now c.args.columns.now c.in_default.not-AbsentOverTime h
