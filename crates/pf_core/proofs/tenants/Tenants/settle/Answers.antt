use Rattle.std.proofs.Common.{rules}
use Rattle.pf_core.proofs.Numbers.{tenant_added}
use Rattle.pf_core.proofs.tenants.Tenants.settle.Goals as goal

pub invariant_of-self-2 : goal.invariant_of-self-2
invariant_of-self-2 c =
    tenant_added c.self.inside.names.items c.push_reserved.new.self.items c.self.inside.logs.items c.push_reserved-2.new.self.items
    c.self.inside.counts.items c.push_reserved-3.new.self.items c.self.inside.numbers c.insert.new.self c.in-Some.field-0.key c.in-Some.name c.args.seat.number
    c.args.seat.log c.args.self.now c.args.seat.newcomer c.self.invariant.0 c.self.invariant.1 c.self.view_is (search rules) c.requires (search rules)
    c.in_ok-insert.ensures.updates (search rules) (search rules) (search rules)
