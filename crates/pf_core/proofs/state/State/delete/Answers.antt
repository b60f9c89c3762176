use Rattle.std.proofs.Common.{rules, arith, ◌≡◌, ◌∙◌, length, refl, sym}
use Rattle.std.proofs.lemmas.Grind.{common_steps}
use Rattle.std.proofs.lemmas.List.{length-map}
use Rattle.pf_core.proofs.Entered.{deleted, one_fits, refused}
use Rattle.pf_core.proofs.Standing.{same_state, state_kept, work_kept}
use Rattle.pf_core.proofs.Stepped.{is_full, room_for}
use Rattle.pf_core.proofs.state.State.delete.Goals as goal
use Rattle.pf_core.specs.Entries.{entry_of}

pub returns-then-not-has_room-clause-err : goal.returns-then-not-has_room-clause-err
returns-then-not-has_room-clause-err c =
    let many : c.len.result ≡ length c.args.self.now.journal.items = search rules in
    (many ∙ sym (length-map c.args.self.now.journal.items entry_of), (is_full c.args.self.now 1 c.requires.state.history (search rules), refl))

pub returns-in_err-refuse-clause-state : goal.returns-in_err-refuse-clause-state
returns-in_err-refuse-clause-state c = same_state c.args.self.now c.refuse.new.self c.requires.state (search rules)

pub returns-in_default-clause-state : goal.returns-in_default-clause-state
returns-in_default-clause-state c =
    let r =
    refused c.args.self.now c.refuse.new.self c.args.by c.args.tenant.now c.requires.state.history (search rules) (search rules)
    (one_fits (length c.args.self.now.journal.items) c.args.self.now.reserved 1 c.args.self.now.limits.journal (omega arith) (search rules)) in
    state_kept c.args.self.now c.refuse.new.self c.args.by _ c.stay_true.ensures c.requires.state r.0 r.1 (search rules) refl refl

pub returns-in_default-clause-err : goal.returns-in_default-clause-err
returns-in_default-clause-err c = (
  room_for c.args.self.now 1 c.requires.state.history (search rules),
  (refused c.args.self.now c.refuse.new.self c.args.by c.args.tenant.now c.requires.state.history (search rules) (search rules)
      (one_fits (length c.args.self.now.journal.items) c.args.self.now.reserved 1 c.args.self.now.limits.journal (omega arith) (search rules))).1,
)

pub returns-in_err-enter-clause-state : goal.returns-in_err-enter-clause-state
returns-in_err-enter-clause-state c = same_state c.args.self.now c.enter.new.self c.requires.state (search rules)

pub returns-clause-state : goal.returns-clause-state
returns-clause-state c =
    let a =
    deleted c.args.self.now c.enter.new.self c.args.by c.args.tenant.now c.in-Some.seat c.cut_out.new.seat _ _ _ _ _ c.requires.state.history (search rules)
    c.in_ok-deleted.ensures c.in_ok-enter.ensures.ok (search rules) in
    state_kept c.args.self.now c.enter.new.self c.args.by _ c.stay_true.ensures c.requires.state a.0 a.1.1.entered (search rules) refl refl

pub returns-clause-ok : goal.returns-clause-ok
returns-clause-ok c =
    (deleted c.args.self.now c.enter.new.self c.args.by c.args.tenant.now c.in-Some.seat c.cut_out.new.seat _ _ _ _ _ c.requires.state.history (search rules)
    c.in_ok-deleted.ensures c.in_ok-enter.ensures.ok (search rules)).1

pub returns-in_default-clause-jobs : goal.returns-in_default-clause-jobs
returns-in_default-clause-jobs c =
    let r =
    refused c.args.self.now c.refuse.new.self c.args.by c.args.tenant.now c.requires.state.history (search rules) (search rules)
    (one_fits (length c.args.self.now.journal.items) c.args.self.now.reserved 1 c.args.self.now.limits.journal (omega arith) (search rules)) in
    work_kept c.args.self.now c.refuse.new.self c.args.by _ r.1 (search rules) refl

pub returns-clause-jobs : goal.returns-clause-jobs
returns-clause-jobs c =
    let a =
    deleted c.args.self.now c.enter.new.self c.args.by c.args.tenant.now c.in-Some.seat c.cut_out.new.seat _ _ _ _ _ c.requires.state.history (search rules)
    c.in_ok-deleted.ensures c.in_ok-enter.ensures.ok (search rules) in
    work_kept c.args.self.now c.enter.new.self c.args.by _ a.1.1.entered (search rules) refl

pub returns-clause-err : goal.returns-clause-err
returns-clause-err c = grind (arith, common_steps)
