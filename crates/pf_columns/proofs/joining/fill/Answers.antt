use Rattle.std.proofs.Common.{sym, ap, ◌∙◌, rules}
use Rattle.pf_columns.specs.Joins.{filled}
use Rattle.pf_columns.proofs.JoinedCells.{fill_none, fill_one}
use Rattle.pf_columns.proofs.joining.fill.Goals as goal

pub loop-values-preserved : goal.loop-values-preserved
loop-values-preserved c =
    ap (filled c.args.len) c.in_ok-push.ensures.items ∙ fill_one c.args.len c.loop-values.values.items (search rules) ∙ c.loop-values.invariant

pub returns : goal.returns
returns c = sym (fill_none c.args.len c.loop-values.values.items (search rules)) ∙ c.loop-values.invariant
