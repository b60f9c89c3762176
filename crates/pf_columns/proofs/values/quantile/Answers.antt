use Rattle.std.proofs.Common.{rules, ◌<ℤ◌, pos, ◌∙◌}
use Rattle.pf_columns.proofs.Ways.{above_one, below_zero, highest_is, lowest_is}
use Rattle.pf_columns.proofs.values.quantile.Goals as goal

pub returns-then-micros-lt0 : goal.returns-then-micros-lt0
returns-then-micros-lt0 c =
    let below : c.args.q <ℤ pos 0 = search rules in
    c.new.ensures ∙ lowest_is ∙ below_zero c.args.q c.args.values.items below

pub returns-then-micros-gt1000000 : goal.returns-then-micros-gt1000000
returns-then-micros-gt1000000 c =
    let above : pos 1000000 <ℤ c.args.q = search rules in
    c.new-then-micros-gt1000000.ensures ∙ highest_is ∙ above_one c.args.q c.args.values.items above
