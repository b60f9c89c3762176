use Rattle.std.proofs.Common.{arith}
use Rattle.std.proofs.lemmas.Grind.{common_steps}
use Rattle.pf_core.proofs.OpenQueries.{cancel_room}
use Rattle.pf_core.proofs.state.State.cancel_open.Goals as goal

pub overflow_sub-self : goal.overflow_sub-self
overflow_sub-self c = let two = cancel_room c.args.self.now c.args.query c.requires.state.history c.requires.uncancelled in omega (arith, two)

pub note-requires : goal.note-requires
note-requires c =
    let two = cancel_room c.args.self.now c.args.query c.requires.state.history c.requires.uncancelled in
    let fits = c.requires.state.history.capacity in
    omega (arith, two, fits)

pub returns-clause-cancelled : goal.returns-clause-cancelled
returns-clause-cancelled c = grind (arith, common_steps)

pub returns-clause-stopped : goal.returns-clause-stopped
returns-clause-stopped c = grind (arith, common_steps)

pub returns-clause-table : goal.returns-clause-table
returns-clause-table c = grind (arith, common_steps)

pub returns-clause-failures : goal.returns-clause-failures
returns-clause-failures c = grind (arith, common_steps)
