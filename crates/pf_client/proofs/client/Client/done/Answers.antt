use Rattle.std.proofs.Common.{rules, ◌≡◌, ◌<◌, ◌++◌, ◌∙◌, ap, refl, arith, codes, decimal, length, slice_set, Some, None}
use Rattle.std.specs.Vec.{with_item}
use Rattle.pf_journal.specs.Replies.{done_words, reply_line}
use Rattle.pf_journal.specs.Rest.{of_done}
use Rattle.pf_journal.specs.Steps.{DoneReply}
use Rattle.pf_client.proofs.Cases.{on_ok_all, on_ok_map}
use Rattle.pf_client.proofs.StepLines.{at_worker, grows_worked, holds_dropped, holds_same, none_set, step_done, step_empty}
use Rattle.pf_client.proofs.Steps.{grows_same}
use Rattle.pf_client.proofs.client.Client.done.Goals as goal

pub work-worked-requires-clause-stands : goal.work-worked-requires-clause-stands
work-worked-requires-clause-stands g c =
    let low = c.requires.worker in
    let many = c.requires.holds.many in
    let inside : c.args.worker < length c.args.self.now.hands.items = omega (arith, low, many) in
    let got : c.index_mut.result.now ≡ Some c.in-Some.held = search rules in
    let there = at_worker c.args.self.now.hands.items c.args.worker c.index_mut.result.now inside c.index_mut.ensures.value ∙ got in
    let holds = c.requires.holds.stands c.args.worker c.in-Some.held there in
    holds.0

pub work-worked-requires-clause-actor : goal.work-worked-requires-clause-actor
work-worked-requires-clause-actor g c =
    let low = c.requires.worker in
    let many = c.requires.holds.many in
    let inside : c.args.worker < length c.args.self.now.hands.items = omega (arith, low, many) in
    let got : c.index_mut.result.now ≡ Some c.in-Some.held = search rules in
    let there = at_worker c.args.self.now.hands.items c.args.worker c.index_mut.result.now inside c.index_mut.ensures.value ∙ got in
    let holds = c.requires.holds.stands c.args.worker c.in-Some.held there in
    let a = holds.1 in
    omega (arith, a, low)

pub returns-clause-step : goal.returns-clause-step
returns-clause-step g c =
    let low = c.requires.worker in
    let many = c.requires.holds.many in
    let inside : c.args.worker < length c.args.self.now.hands.items = omega (arith, low, many) in
    let got : c.index_mut.result.now ≡ Some c.in-Some.held = search rules in
    let there = at_worker c.args.self.now.hands.items c.args.worker c.index_mut.result.now inside c.index_mut.ensures.value ∙ got in
    let holds = c.requires.holds.stands c.args.worker c.in-Some.held there in
    on_ok_map _ _ c.push_done_reply-2.result
    (λ said known above hands k have.
    step_done known above hands c.args.self.now (record c.args.self.now { core = c.work-worked.new.core; hands = with_item c.args.self.now.hands c.args.worker c.replace.new.dest; out = c.push_done_reply-2.new.out }) c.args.number c.args.worker _ _ c.in-Some.held c.work-worked.result
    c.work-worked.ensures.worked holds.0 holds.1 low c.work-worked.ensures.stands have there inside (ap (slice_set c.args.self.now.hands.items c.args.worker) c.replace.ensures.after)
    (said ∙ ap (λ (d : DoneReply). c.args.self.now.out.items ++ reply_line c.args.number (codes "done") (decimal c.args.worker) (done_words (of_done d))) c.done_reply.ensures))
    c.push_done_reply-2.ensures.ok

pub returns-clause-grows : goal.returns-clause-grows
returns-clause-grows g c =
    let low = c.requires.worker in
    let many = c.requires.holds.many in
    let inside : c.args.worker < length c.args.self.now.hands.items = omega (arith, low, many) in
    let got : c.index_mut.result.now ≡ Some c.in-Some.held = search rules in
    let there = at_worker c.args.self.now.hands.items c.args.worker c.index_mut.result.now inside c.index_mut.ensures.value ∙ got in
    let holds = c.requires.holds.stands c.args.worker c.in-Some.held there in
    on_ok_all _ c.push_done_reply-2.result
    (grows_worked c.args.self.now.core c.work-worked.new.core c.in-Some.held _ _ c.work-worked.result holds.0 c.work-worked.ensures.worked (λ client below. c.work-worked.ensures.idle client) c.work-worked.ensures.carried)

pub returns-clause-holds : goal.returns-clause-holds
returns-clause-holds g c =
    let low = c.requires.worker in
    let many = c.requires.holds.many in
    let inside : c.args.worker < length c.args.self.now.hands.items = omega (arith, low, many) in
    let got : c.index_mut.result.now ≡ Some c.in-Some.held = search rules in
    let there = at_worker c.args.self.now.hands.items c.args.worker c.index_mut.result.now inside c.index_mut.ensures.value ∙ got in
    let holds = c.requires.holds.stands c.args.worker c.in-Some.held there in
    on_ok_all _ c.push_done_reply-2.result
    (holds_dropped c.args.self.now (record c.args.self.now { core = c.work-worked.new.core; hands = with_item c.args.self.now.hands c.args.worker c.replace.new.dest; out = c.push_done_reply-2.new.out }) c.args.worker refl
    (grows_worked c.args.self.now.core c.work-worked.new.core c.in-Some.held _ _ c.work-worked.result holds.0 c.work-worked.ensures.worked (λ client below. c.work-worked.ensures.idle client) c.work-worked.ensures.carried)
    (ap (slice_set c.args.self.now.hands.items c.args.worker) c.replace.ensures.after) low c.requires.holds)

pub returns-in_default-clause-step : goal.returns-in_default-clause-step
returns-in_default-clause-step g c =
    let low = c.requires.worker in
    let many = c.requires.holds.many in
    let inside : c.args.worker < length c.args.self.now.hands.items = omega (arith, low, many) in
    let got : c.index_mut.result.now ≡ None = search rules in
    let vacant = at_worker c.args.self.now.hands.items c.args.worker c.index_mut.result.now inside c.index_mut.ensures.value ∙ got in
    let same = ap (slice_set c.args.self.now.hands.items c.args.worker) c.replace.ensures.after ∙ none_set c.args.self.now.hands.items c.args.worker c.index_mut.result.now inside c.index_mut.ensures.value got in
    on_ok_map _ _ c.push_done_reply.result
    (λ said known above hands k have.
    step_empty known above hands c.args.self.now (record c.args.self.now { hands = with_item c.args.self.now.hands c.args.worker c.replace.new.dest; out = c.push_done_reply.new.out }) c.args.number c.args.worker refl same have vacant said)
    c.push_done_reply.ensures.ok

pub returns-in_default-clause-grows : goal.returns-in_default-clause-grows
returns-in_default-clause-grows g c = on_ok_all _ c.push_done_reply.result (grows_same c.args.self.now.core c.args.self.now.core refl)

pub returns-in_default-clause-holds : goal.returns-in_default-clause-holds
returns-in_default-clause-holds g c =
    let low = c.requires.worker in
    let many = c.requires.holds.many in
    let inside : c.args.worker < length c.args.self.now.hands.items = omega (arith, low, many) in
    let got : c.index_mut.result.now ≡ None = search rules in
    let vacant = at_worker c.args.self.now.hands.items c.args.worker c.index_mut.result.now inside c.index_mut.ensures.value ∙ got in
    let same = ap (slice_set c.args.self.now.hands.items c.args.worker) c.replace.ensures.after ∙ none_set c.args.self.now.hands.items c.args.worker c.index_mut.result.now inside c.index_mut.ensures.value got in
    on_ok_all _ c.push_done_reply.result
    (holds_same c.args.self.now (record c.args.self.now { hands = with_item c.args.self.now.hands c.args.worker c.replace.new.dest; out = c.push_done_reply.new.out }) refl (grows_same {count = 0} c.args.self.now.core c.args.self.now.core refl) same c.requires.holds)
