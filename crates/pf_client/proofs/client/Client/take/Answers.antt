use Rattle.std.proofs.Common.{rules, ◌+◌, ◌∙◌, ◌<◌, sym, subst, refl, arith, length}
use Rattle.pf_core.specs.Calls.{IsTaken}
use Rattle.pf_core.specs.Cores.{CoreData, Stands}
use Rattle.pf_client.proofs.Cases.{on_ok_all, on_ok_map, on_ok_two}
use Rattle.pf_client.proofs.StepLines.{at_worker, grows_taken, holds_on, holds_taken, named_tenant, none_held, some_held, step_busy, step_none, step_taken}
use Rattle.pf_client.proofs.Steps.{grows_same}
use Rattle.pf_client.proofs.client.Client.take.Goals as goal

pub returns-then-is_some-clause-step : goal.returns-then-is_some-clause-step
returns-then-is_some-clause-step c =
    let low = c.requires.worker in
    let many = c.requires.holds.many in
    let inside : c.args.worker < length c.args.self.now.hands.items = omega (arith, low, many) in
    let s = some_held c.index.result.now (sym c.is_some.ensures ∙ c.if-is_some.true) in
    on_ok_map _ _ c.push_take_reply.result
    (λ said known above hands k alone asked have.
    step_busy known above hands c.args.self.now (record c.args.self.now { out = c.push_take_reply.new.out }) c.args.number c.args.worker s.0 refl refl have
    (at_worker c.args.self.now.hands.items c.args.worker c.index.result.now inside c.index.ensures ∙ s.1) said)
    c.push_take_reply.ensures.ok

pub returns-then-is_some-clause-grows : goal.returns-then-is_some-clause-grows
returns-then-is_some-clause-grows c = on_ok_all _ c.push_take_reply.result (grows_same c.args.self.now.core c.args.self.now.core refl)

pub returns-in-None-clause-step : goal.returns-in-None-clause-step
returns-in-None-clause-step c =
    let low = c.requires.worker in
    let many = c.requires.holds.many in
    let inside : c.args.worker < length c.args.self.now.hands.items = omega (arith, low, many) in
    let n = none_held c.index.result.now (sym c.is_some.ensures ∙ c.if-is_some.false) in
    on_ok_map _ _ c.push_take_reply-in-None.result
    (λ said known above hands k alone asked have.
    step_none known above hands c.args.self.now (record c.args.self.now { core = c.take.new.self; out = c.push_take_reply-in-None.new.out }) c.args.number c.args.worker (search rules) refl have
    (at_worker c.args.self.now.hands.items c.args.worker c.index.result.now inside c.index.ensures ∙ n) said)
    c.push_take_reply-in-None.ensures.ok

pub returns-in-None-clause-grows : goal.returns-in-None-clause-grows
returns-in-None-clause-grows c = on_ok_all _ c.push_take_reply-in-None.result (grows_same c.args.self.now.core c.take.new.self (search rules))

pub returns-in-None-clause-holds : goal.returns-in-None-clause-holds
returns-in-None-clause-holds c =
    on_ok_all _ c.push_take_reply-in-None.result
    (holds_on c.args.self.now (record c.args.self.now { core = c.take.new.self; out = c.push_take_reply-in-None.new.out }) refl
    (grows_same {count = 0} c.args.self.now.core c.take.new.self (search rules)) refl c.requires.holds)

pub returns-in-Some-clause-step : goal.returns-in-Some-clause-step
returns-in-Some-clause-step c =
    let low = c.requires.worker in
    let many = c.requires.holds.many in
    let inside : c.args.worker < length c.args.self.now.hands.items = omega (arith, low, many) in
    let n = none_held c.index.result.now (sym c.is_some.ensures ∙ c.if-is_some.false) in
    let taken = subst (λ (d : CoreData). IsTaken c.args.self.now.core (16 + c.args.worker) c.in-Some.held d) (sym c.hold.ensures.core) c.in-Some.ensures.taken in
    let stands = subst Stands (sym c.hold.ensures.core) c.in-Some.ensures.stands in
    let name = named_tenant c.args.self.now.core c.hold.new.self.core (16 + c.args.worker) c.in-Some.held taken stands in
    on_ok_two _ _ _ c.hold.result
    (λ said set known above hands k alone asked have.
    step_taken known above hands c.args.self.now c.hold.new.self c.args.number c.args.worker c.in-Some.held taken alone stands asked k name.0 name.1 have
    (at_worker c.args.self.now.hands.items c.args.worker c.index.result.now inside c.index.ensures ∙ n) inside
    (set name.0 (search rules)) (said name.0 (search rules)))
    c.hold.ensures.said c.hold.ensures.hands

pub returns-in-Some-clause-grows : goal.returns-in-Some-clause-grows
returns-in-Some-clause-grows c =
    let taken = subst (λ (d : CoreData). IsTaken c.args.self.now.core (16 + c.args.worker) c.in-Some.held d) (sym c.hold.ensures.core) c.in-Some.ensures.taken in
    on_ok_all _ c.hold.result (grows_taken c.args.self.now.core c.hold.new.self.core c.args.worker c.in-Some.held taken)

pub returns-in-Some-clause-holds : goal.returns-in-Some-clause-holds
returns-in-Some-clause-holds c =
    let taken = subst (λ (d : CoreData). IsTaken c.args.self.now.core (16 + c.args.worker) c.in-Some.held d) (sym c.hold.ensures.core) c.in-Some.ensures.taken in
    let stands = subst Stands (sym c.hold.ensures.core) c.in-Some.ensures.stands in
    let name = named_tenant c.args.self.now.core c.hold.new.self.core (16 + c.args.worker) c.in-Some.held taken stands in
    on_ok_map _ _ c.hold.result
    (λ set. holds_taken c.args.self.now c.hold.new.self c.args.worker c.in-Some.held c.hold.ensures.client (grows_taken c.args.self.now.core c.hold.new.self.core c.args.worker c.in-Some.held taken)
    (set name.0 (search rules)) c.requires.worker taken.stands taken.actor_is c.requires.holds)
    c.hold.ensures.hands
