use Rattle.pf_columns.proofs.Ways.{reached_within}
use Rattle.pf_columns.proofs.values.way.Goals as goal

-- what lies between two values is within the bounds
pub returns-clause-within : goal.returns-clause-within
returns-clause-within c =
    reached_within c.args.low c.args.high c.span.result c.part_of.result c.micros_from.result c.args.millionths c.requires
    c.span.ensures.low c.span.ensures.high c.span.ensures.span c.span.ensures.bound c.part_of.ensures.part c.part_of.ensures.bound c.micros_from.ensures
