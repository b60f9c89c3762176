use Rattle.std.proofs.Common.{rules, None, Some, refl}
use Rattle.pf_core.proofs.OpenQueries.{cancel_enters, cancel_state, cancellable, may_cancel, others, owned}
use Rattle.pf_core.proofs.Standing.{cancelled_jobs, cancelled_state}
use Rattle.pf_core.specs.States.{machine_in}
use Rattle.pf_journal.specs.Machine.{open_at}
use Rattle.pf_core.proofs.state.State.cancel.Goals as goal

pub returns-then-not-is_named-clause-told : goal.returns-then-not-is_named-clause-told
returns-then-not-is_named-clause-told c =
    (others c.args.self.now c.args.query c.in-Some.open c.args.tenant.now c.requires.state.history (search rules) (search rules), refl)

pub returns-in-Some-cancelled-clause-told : goal.returns-in-Some-cancelled-clause-told
returns-in-Some-cancelled-clause-told c =
    (owned c.args.self.now c.args.query c.in-Some.open c.args.tenant.now (Some c.in-Some-cancelled.place) (search rules) (search rules) (search rules), refl)

pub returns-clause-state : goal.returns-clause-state
returns-clause-state c =
    let may = may_cancel c.args.self.now c.args.query c.in-Some.open (search rules) (search rules) in
    let found = cancellable (open_at c.args.query (machine_in c.args.self.now).queries) may in
    cancelled_state c.args.self.now c.cancel_open.new.self c.args.by c.args.query found.opened c.requires.state
    (cancel_state c.args.self.now c.cancel_open.new.self c.args.by c.args.query c.requires.state.history may c.cancel_open.ensures.cancelled)
    (cancel_enters c.args.self.now c.cancel_open.new.self c.args.by c.args.query c.requires.state.history may c.cancel_open.ensures.cancelled)
    found.there c.cancel_open.ensures.stopped c.cancel_open.ensures.table c.cancel_open.ensures.failures

pub returns-clause-told : goal.returns-clause-told
returns-clause-told c = (
  owned c.args.self.now c.args.query c.in-Some.open c.args.tenant.now None (search rules) (search rules) (search rules),
  cancel_enters c.args.self.now c.cancel_open.new.self c.args.by c.args.query c.requires.state.history
      (may_cancel c.args.self.now c.args.query c.in-Some.open (search rules) (search rules)) c.cancel_open.ensures.cancelled,
)

pub returns-clause-jobs : goal.returns-clause-jobs
returns-clause-jobs c =
    let may = may_cancel c.args.self.now c.args.query c.in-Some.open (search rules) (search rules) in
    let found = cancellable (open_at c.args.query (machine_in c.args.self.now).queries) may in
    cancelled_jobs c.args.self.now c.cancel_open.new.self c.args.by c.args.query found.opened c.requires.state
    (cancel_enters c.args.self.now c.cancel_open.new.self c.args.by c.args.query c.requires.state.history may c.cancel_open.ensures.cancelled)
    found.there c.cancel_open.ensures.stopped c.cancel_open.ensures.table c.cancel_open.ensures.failures
