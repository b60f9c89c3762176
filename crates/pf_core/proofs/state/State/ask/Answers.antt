use Rattle.std.proofs.Common.{rules, arith, ◌≡◌, ◌∙◌, length, refl, sym}
use Rattle.std.proofs.lemmas.Grind.{common_steps}
use Rattle.std.proofs.lemmas.List.{length-map}
use Rattle.pf_core.proofs.Entered.{filled, one_fits, refused}
use Rattle.pf_core.proofs.OpenQueries.{asked}
use Rattle.pf_core.proofs.Standing.{opened_state, opened_work, same_state, state_kept, work_kept}
use Rattle.pf_core.proofs.Stepped.{counted, is_full, room_for}
use Rattle.pf_core.proofs.state.State.ask.Goals as goal
use Rattle.pf_core.specs.Entries.{entry_of}

pub returns-then-not-has_room-clause-err : goal.returns-then-not-has_room-clause-err
returns-then-not-has_room-clause-err c =
    let many : c.len-place.result ≡ length c.args.self.now.journal.items = search rules in
    (many ∙ sym (length-map c.args.self.now.journal.items entry_of), (is_full c.args.self.now 3 c.requires.state.history (search rules), refl))

pub returns-in_err-refuse-clause-state : goal.returns-in_err-refuse-clause-state
returns-in_err-refuse-clause-state c = same_state c.args.self.now c.refuse.new.self c.requires.state (search rules)

pub returns-in_default-clause-state : goal.returns-in_default-clause-state
returns-in_default-clause-state c =
    let r =
    refused c.args.self.now c.refuse.new.self c.args.by c.args.tenant.now c.requires.state.history (search rules) (search rules)
    (one_fits (length c.args.self.now.journal.items) c.args.self.now.reserved 3 c.args.self.now.limits.journal (omega arith) (search rules)) in
    state_kept c.args.self.now c.refuse.new.self c.args.by _ c.stay_true.ensures c.requires.state r.0 r.1 (search rules) refl refl

pub returns-in_default-clause-err : goal.returns-in_default-clause-err
returns-in_default-clause-err c = (
  room_for c.args.self.now 3 c.requires.state.history (search rules),
  (refused c.args.self.now c.refuse.new.self c.args.by c.args.tenant.now c.requires.state.history (search rules) (search rules)
      (one_fits (length c.args.self.now.journal.items) c.args.self.now.reserved 3 c.args.self.now.limits.journal (omega arith) (search rules))).1,
)

pub returns-in_err-fill-clause-state : goal.returns-in_err-fill-clause-state
returns-in_err-fill-clause-state c = same_state c.args.self.now c.fill.new.self c.requires.state (search rules)

pub returns-then-outstanding-self-clause-state : goal.returns-then-outstanding-self-clause-state
returns-then-outstanding-self-clause-state c =
    let f =
    filled c.args.self.now c.fill.new.self c.args.by c.args.tenant.now c.in-Some.seat c.count-outstanding.result c.requires.state.history (search rules)
    (search rules) (search rules) (search rules)
    (one_fits (length c.args.self.now.journal.items) c.args.self.now.reserved 3 c.args.self.now.limits.journal (omega arith) (search rules)) in
    state_kept c.args.self.now c.fill.new.self c.args.by _ c.stay_true.ensures c.requires.state f.0 f.1.1.entered (search rules) refl refl

pub returns-then-outstanding-self-clause-err : goal.returns-then-outstanding-self-clause-err
returns-then-outstanding-self-clause-err c =
    let f =
    filled c.args.self.now c.fill.new.self c.args.by c.args.tenant.now c.in-Some.seat c.count-outstanding.result c.requires.state.history (search rules)
    (search rules) (search rules) (search rules)
    (one_fits (length c.args.self.now.journal.items) c.args.self.now.reserved 3 c.args.self.now.limits.journal (omega arith) (search rules)) in
    (f.1.0, (room_for c.args.self.now 3 c.requires.state.history (search rules), f.1.1))

pub returns-in_err-pin-clause-state : goal.returns-in_err-pin-clause-state
returns-in_err-pin-clause-state c = same_state c.args.self.now c.open_query.new.self c.requires.state (search rules)

pub returns-clause-state : goal.returns-clause-state
returns-clause-state c =
    let a =
    asked c.args.self.now c.open_query.new.self c.args.by c.args.tenant.now c.in-Some.seat c.count-outstanding.result c.len-place.result _ _ _ c.requires.state.history
    (search rules) (search rules) (search rules) c.in_ok-opening.ensures c.in_ok-pin.ensures.ok (search rules) c.in_ok-pin.ensures.pin (search rules) in
    opened_state c.args.self.now c.open_query.new.self c.args.by _ _ c.stay_true.ensures c.requires.state a.0 a.1.0 refl (counted c.args.self.now) refl refl
    c.in_ok-pin.ensures.opened (search rules) (search rules)

pub returns-clause-ok : goal.returns-clause-ok
returns-clause-ok c =
    (asked c.args.self.now c.open_query.new.self c.args.by c.args.tenant.now c.in-Some.seat c.count-outstanding.result c.len-place.result _ _ _ c.requires.state.history
    (search rules) (search rules) (search rules) c.in_ok-opening.ensures c.in_ok-pin.ensures.ok (search rules) c.in_ok-pin.ensures.pin (search rules)).1.1

pub returns-clause-jobs : goal.returns-clause-jobs
returns-clause-jobs c =
    let a =
    asked c.args.self.now c.open_query.new.self c.args.by c.args.tenant.now c.in-Some.seat c.count-outstanding.result c.len-place.result _ _ _ c.requires.state.history
    (search rules) (search rules) (search rules) c.in_ok-opening.ensures c.in_ok-pin.ensures.ok (search rules) c.in_ok-pin.ensures.pin (search rules) in
    opened_work c.args.self.now c.open_query.new.self c.args.by _ _ c.len-place.result c.requires.state a.1.0 refl (counted c.args.self.now) (search rules)
    c.in_ok-pin.ensures.opened (search rules)

pub returns-in_default-clause-err_jobs : goal.returns-in_default-clause-err_jobs
returns-in_default-clause-err_jobs c =
    let r =
    refused c.args.self.now c.refuse.new.self c.args.by c.args.tenant.now c.requires.state.history (search rules) (search rules)
    (one_fits (length c.args.self.now.journal.items) c.args.self.now.reserved 3 c.args.self.now.limits.journal (omega arith) (search rules)) in
    work_kept c.args.self.now c.refuse.new.self c.args.by _ r.1 (search rules) refl

pub returns-then-outstanding-self-clause-err_jobs : goal.returns-then-outstanding-self-clause-err_jobs
returns-then-outstanding-self-clause-err_jobs c =
    let f =
    filled c.args.self.now c.fill.new.self c.args.by c.args.tenant.now c.in-Some.seat c.count-outstanding.result c.requires.state.history (search rules)
    (search rules) (search rules) (search rules)
    (one_fits (length c.args.self.now.journal.items) c.args.self.now.reserved 3 c.args.self.now.limits.journal (omega arith) (search rules)) in
    work_kept c.args.self.now c.fill.new.self c.args.by _ f.1.1.entered (search rules) refl

pub returns-clause-err_jobs : goal.returns-clause-err_jobs
returns-clause-err_jobs c = grind (arith, common_steps)

pub returns-clause-err : goal.returns-clause-err
returns-clause-err c = grind (arith, common_steps)
