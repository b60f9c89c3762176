use Rattle.std.proofs.Common.{rules}
use Rattle.pf_results.proofs.Adding.{known_result}
use Rattle.pf_results.proofs.frozen.with_next.Goals as goal

pub returns-in-Some-clause-known : goal.returns-in-Some-clause-known
returns-in-Some-clause-known c = known_result c.in-Some.kept _ c.args.extent c.combine.result (search rules) c.combine.ensures.left

pub returns-in-None-clause-known : goal.returns-in-None-clause-known
returns-in-None-clause-known c = known_result c.args.list.now _ c.args.extent c.combine-in-None.result (search rules) c.combine-in-None.ensures.left
