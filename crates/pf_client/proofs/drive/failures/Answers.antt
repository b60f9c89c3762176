use Rattle.std.proofs.Common.{rules}
use Rattle.pf_client.proofs.Reports.{take_next, take_whole}
use Rattle.pf_client.proofs.drive.failures.Goals as goal

pub loop-actor-preserved : goal.loop-actor-preserved
loop-actor-preserved c = search (rules, take_next)

pub returns : goal.returns
returns c stands = take_whole c.args.core.now.failed c.loop-actor.failed.items c.loop-actor.actor c.loop-actor.invariant (search rules)
