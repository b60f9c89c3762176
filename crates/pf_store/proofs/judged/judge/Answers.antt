use Rattle.std.proofs.Common.{arith}
use Rattle.std.proofs.Common.{◌++◌, ◌∙◌, sym}
use Rattle.std.proofs.lemmas.Grind.{common_steps}
use Rattle.pf_store.proofs.Judging.{above_floor, no_floor}
use Rattle.pf_store.proofs.judged.judge.Goals as goal
use Rattle.pf_store.proofs.judged.judge.Goals.{in-Some+else-row-floor, in_default}

pub returns-clause-verdict : goal.returns-clause-verdict
returns-clause-verdict c = λ xs f.
    c.in_ok-verdict.ensures.verdict xs f
    ∙ sym (elim c.match-floor.branch [
      | in-Some+else-row-floor w ↦ above_floor c.args.floor w.in-Some.floor (xs ++ c.args.taken.now.rows.items) c.args.row.now w.in-Some.is w.if-row-floor.false
      | in_default w ↦ no_floor c.args.floor (xs ++ c.args.taken.now.rows.items) c.args.row.now w.in_default.is
    ])

pub returns-clause-rows : goal.returns-clause-rows
returns-clause-rows c = grind (arith, common_steps)

pub returns-clause-fresh : goal.returns-clause-fresh
returns-clause-fresh c = grind (arith, common_steps)

pub returns-clause-found : goal.returns-clause-found
returns-clause-found c = grind (arith, common_steps)

pub returns-clause-ids : goal.returns-clause-ids
returns-clause-ids c = grind (arith, common_steps)
