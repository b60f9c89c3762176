use Rattle.std.proofs.Common.{rules, sym, true}
use Rattle.pf_script.specs.declared.ids.Asked.{Asked}
use Rattle.pf_script.proofs.IdLists.{kept_alike, never_kept, now_unkept, once_answered_kept, once_kept}
use Rattle.pf_script.proofs.ids.Ids.keep.Goals as goal
use Rattle.pf_script.proofs.ids.Ids.keep.Goals.{then-asked-via-then-asked, then-asked-via-else-asked+then-asked-2}

pub returns-in_err-asked-clause-found : goal.returns-in_err-asked-clause-found
returns-in_err-asked-clause-found c = rw c.from_residual.ensures (never_kept c.args.id.now c.args.self.now.asked.entries (sym c.in_err-asked.ensures.value))

pub returns-then-asked-clause-found : goal.returns-then-asked-clause-found
returns-then-asked-clause-found c =
    let now = c.in_ok-asked.asked.now in
    elim c.then-asked.branch [
      | then-asked-via-then-asked w ↦ once_answered_kept c.args.id.now c.args.self.now.asked.entries now (sym c.in_ok-asked.ensures.value) w.if-asked.true
      | then-asked-via-else-asked+then-asked-2 w ↦ once_kept c.args.id.now c.args.self.now.asked.entries now (sym c.in_ok-asked.ensures.value) w.if-asked.false w.if-asked-2.true
    ]

pub returns-clause-found : goal.returns-clause-found
returns-clause-found c =
    now_unkept c.args.id.now c.args.self.now.asked.entries c.in_ok-asked.asked.now (sym c.in_ok-asked.ensures.value) c.if-asked.false c.if-asked-2.false

pub returns-clause-marked : goal.returns-clause-marked
returns-clause-marked c =
    let now = c.in_ok-asked.asked.now in
    let new : Asked = record { line = now.line; answered = now.answered; kept = true } in
    kept_alike c.args.id.now now c.args.self.now.asked (c.get_mut.follows.lender new) (sym c.in_ok-asked.ensures.value)
    ((c.get_mut.follows.holds new).3 (search rules))
