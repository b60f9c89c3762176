use Rattle.std.proofs.Common.{rules, arith, ◌≡◌, ℕ, List, Some, ap, slice_get, subst}
use Rattle.pf_model.specs.Log.{Change, Rules, store_of}
use Rattle.pf_store.specs.Standing.{IsLog, LogData}
use Rattle.pf_core.specs.declared.query.Query.{Query}
use Rattle.pf_core.proofs.Offering.{generation_is, owner_known}
use Rattle.pf_core.proofs.state.State.newer_generation.Goals as goal

pub generation-requires : goal.generation-requires
generation-requires c =
    let known = owner_known c.args.self.now c.args.query c.in-Some.open.now c.requires.state (search rules) in
    let same = ap (λ (q : Query). q.tenant) c.open.view_is in
    omega (arith, known, same)

pub returns-then-generation-open : goal.returns-then-generation-open
returns-then-generation-open c = λ o there.
    let g = generation_is c.args.self.now c.args.query c.in_ok-generation.generation c.in-Some.open.now o c.requires.state (search rules) there
    c.generation.ensures.tenants
    (subst (λ (u : ℕ). (log_rules : Rules) (d : LogData) (log : List Change) → slice_get c.args.self.now.tenants.logs u ≡ Some d → IsLog log_rules d log
    → c.in_ok-generation.generation ≡ (store_of log_rules log).generation) (ap (λ (q : Query). q.tenant) c.open.view_is) c.in_ok-generation.ensures.generation) in
    let same = ap (λ (q : Query). q.pin.generation) c.open.view_is in
    let now = g.0 in
    let then = g.1 in
    omega (arith, same, now, then)

pub returns : goal.returns
returns c = λ o there.
    let g = generation_is c.args.self.now c.args.query c.in_ok-generation.generation c.in-Some.open.now o c.requires.state (search rules) there
    c.generation.ensures.tenants
    (subst (λ (u : ℕ). (log_rules : Rules) (d : LogData) (log : List Change) → slice_get c.args.self.now.tenants.logs u ≡ Some d → IsLog log_rules d log
    → c.in_ok-generation.generation ≡ (store_of log_rules log).generation) (ap (λ (q : Query). q.tenant) c.open.view_is) c.in_ok-generation.ensures.generation) in
    let same = ap (λ (q : Query). q.pin.generation) c.open.view_is in
    let then = g.1 in
    (g.0, λ e. absurd (omega (arith, same, then, e)))
