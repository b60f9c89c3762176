use Rattle.std.proofs.Common.{rules, sym, true}
use Rattle.pf_script.specs.declared.ids.Asked.{Asked}
use Rattle.pf_script.proofs.IdLists.{answered_alike, never_asked, now_open, once_answered}
use Rattle.pf_script.proofs.ids.Ids.answer.Goals as goal

pub returns-in_err-asked-clause-found : goal.returns-in_err-asked-clause-found
returns-in_err-asked-clause-found c = rw c.from_residual.ensures (never_asked c.args.id.now c.args.self.now.asked.entries (sym c.in_err-asked.ensures.value))

pub returns-then-asked-clause-found : goal.returns-then-asked-clause-found
returns-then-asked-clause-found c =
    once_answered c.args.id.now c.args.self.now.asked.entries c.in_ok-asked.asked.now (sym c.in_ok-asked.ensures.value) c.if-asked.true

pub returns-clause-found : goal.returns-clause-found
returns-clause-found c = now_open c.args.id.now c.args.self.now.asked.entries c.in_ok-asked.asked.now (sym c.in_ok-asked.ensures.value) c.if-asked.false

pub returns-clause-marked : goal.returns-clause-marked
returns-clause-marked c =
    let now = c.in_ok-asked.asked.now in
    let new : Asked = record { line = now.line; answered = true; kept = now.kept } in
    answered_alike c.args.id.now now c.args.self.now.asked (c.get_mut.follows.lender new) (sym c.in_ok-asked.ensures.value)
    ((c.get_mut.follows.holds new).3 (search rules))
