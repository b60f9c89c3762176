use Rattle.std.proofs.Common.{rules}
use Rattle.pf_agg.proofs.KnownGroups.{known_rising}
use Rattle.pf_agg.proofs.partials.Goals as goal

pub returns-clause-rising : goal.returns-clause-rising
returns-clause-rising c = known_rising c.args.grouping.now c.args.cell.now c.in_ok-found.found.items (search rules)
