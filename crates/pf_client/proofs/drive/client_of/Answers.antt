use Rattle.std.proofs.Common.{rules}
use Rattle.pf_client.proofs.Reports.{begins, begins_holds}
use Rattle.pf_client.proofs.Tallying.{counted_first}
use Rattle.pf_client.proofs.Tries.{none_failed}
use Rattle.pf_client.proofs.drive.client_of.Goals as goal

pub returns-clause-going : goal.returns-clause-going
returns-clause-going c = begins c.args.limits _ (search rules) (search rules) (search rules) (search rules)

pub returns-clause-holds : goal.returns-clause-holds
returns-clause-holds c = begins_holds c.args.limits _ (search rules) (search rules) (search rules)

pub returns-clause-counted : goal.returns-clause-counted
returns-clause-counted c = λ loaded known told kn. counted_first c.args.limits c.in_ok-core.core (search rules)

pub returns-clause-untried : goal.returns-clause-untried
returns-clause-untried c = none_failed c.args.limits c.in_ok-core.core (search rules)
