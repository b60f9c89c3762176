use Rattle.std.proofs.Common.{rules}
use Rattle.pf_gen.proofs.Counting.{none_yet, with_one}
use Rattle.pf_gen.proofs.script.push_ingests.Goals as goal

pub loop-tenant-init : goal.loop-tenant-init
loop-tenant-init c = none_yet _ _

pub loop-tenant-preserved : goal.loop-tenant-preserved
loop-tenant-preserved c = with_one _ _ _ _ _ c.loop-tenant.invariant (search rules)
