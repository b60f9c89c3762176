use Rattle.std.proofs.Common.{rules}
use Rattle.pf_core.proofs.Numbers.{number_found}
use Rattle.pf_core.proofs.tenants.Tenants.number_of.Goals as goal

pub returns-clause-found : goal.returns-clause-found
returns-clause-found c =
    rw (← c.self.view_is) (number_found c.self.inside.names.items c.self.inside.numbers c.args.name.now _ c.self.invariant.1 (search rules))
