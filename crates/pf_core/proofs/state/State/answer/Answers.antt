use Rattle.std.proofs.Common.{rules, subst}
use Rattle.pf_core.proofs.Closing.{answers_right, few_opened}
use Rattle.pf_core.proofs.OpenQueries.{answer_entered, answer_inside, answer_room, answer_some}
use Rattle.pf_core.proofs.Standing.{answered_state, closed_jobs}
use Rattle.pf_core.specs.Calls.{evaluated_of}
use Rattle.pf_core.specs.Cores.{Enters, IsOpened}
use Rattle.pf_core.specs.States.{core_of}
use Rattle.pf_journal.specs.Machine.{answer}
use Rattle.pf_core.proofs.state.State.answer.Goals as goal

pub steps_of-evaluated-requires : goal.steps_of-evaluated-requires
steps_of-evaluated-requires c = few_opened c.args.self.now c.args.query c.in-Some.open c.requires.state (search rules)

pub close-requires-clause-inside : goal.close-requires-clause-inside
close-requires-clause-inside c =
    answer_inside c.args.self.now c.args.query c.in-Some.open c.requires.state.history c.count-outstanding.ensures.tenants (search rules)

pub close-requires-clause-some : goal.close-requires-clause-some
close-requires-clause-some c =
    answer_some c.args.self.now c.args.query c.count-outstanding.result c.in-Some.open c.requires.state.history c.count-outstanding.ensures.tenants (search rules)
    (search rules)

pub close-requires-clause-room : goal.close-requires-clause-room
close-requires-clause-room c =
    answer_room c.args.self.now c.args.query c.kept_for-kept.result c.in-Some.open c.requires.state.history (search rules) (search rules)

pub returns-clause-state : goal.returns-clause-state
returns-clause-state c =
    let is : IsOpened (core_of c.args.self.now) c.args.query c.in-Some.open = search rules in
    let right = answers_right c.args.self.now c.args.query c.args.code c.steps_of-evaluated.result c.in-Some.open c.requires.state c.requires.may is (search rules) in
    let a =
    answer_entered c.args.self.now c.close.new.self c.args.by c.args.query c.args.code c.in-Some.open.cached c.steps_of-evaluated.result c.count-outstanding.result
    c.kept_for-kept.result c.in-Some.open c.requires.state.history c.count-outstanding.ensures.tenants is (search rules) (search rules) right.1
    c.close.ensures.steps in
    answered_state c.args.self.now c.close.new.self c.args.by c.args.query c.args.code c.in-Some.open.cached c.steps_of-evaluated.result is.opened c.requires.state a.0 a.1
    is.is_open c.requires.may c.close.ensures.closed c.close.ensures.table c.close.ensures.failures

pub returns-clause-entered : goal.returns-clause-entered
returns-clause-entered c =
    let is : IsOpened (core_of c.args.self.now) c.args.query c.in-Some.open = search rules in
    let right = answers_right c.args.self.now c.args.query c.args.code c.steps_of-evaluated.result c.in-Some.open c.requires.state c.requires.may is (search rules) in
    subst (λ n. Enters (core_of c.args.self.now) c.args.by (answer c.args.query c.args.code n (evaluated_of (core_of c.args.self.now) c.args.query)) (core_of c.close.new.self)) right.0.0
    (subst (λ n. Enters (core_of c.args.self.now) c.args.by (answer c.args.query c.args.code c.in-Some.open.cached n) (core_of c.close.new.self)) right.0.1
    (answer_entered c.args.self.now c.close.new.self c.args.by c.args.query c.args.code c.in-Some.open.cached c.steps_of-evaluated.result c.count-outstanding.result
    c.kept_for-kept.result c.in-Some.open c.requires.state.history c.count-outstanding.ensures.tenants is (search rules) (search rules) right.1
    c.close.ensures.steps).1)

pub returns-clause-jobs : goal.returns-clause-jobs
returns-clause-jobs c =
    let is : IsOpened (core_of c.args.self.now) c.args.query c.in-Some.open = search rules in
    let right = answers_right c.args.self.now c.args.query c.args.code c.steps_of-evaluated.result c.in-Some.open c.requires.state c.requires.may is (search rules) in
    closed_jobs c.args.self.now c.close.new.self c.args.by c.args.query c.args.code c.in-Some.open.cached c.steps_of-evaluated.result is.opened c.requires.state
    (answer_entered c.args.self.now c.close.new.self c.args.by c.args.query c.args.code c.in-Some.open.cached c.steps_of-evaluated.result c.count-outstanding.result
    c.kept_for-kept.result c.in-Some.open c.requires.state.history c.count-outstanding.ensures.tenants is (search rules) (search rules) right.1
    c.close.ensures.steps).1
    is.is_open c.close.ensures.closed c.close.ensures.table c.close.ensures.failures
