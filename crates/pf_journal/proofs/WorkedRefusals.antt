-- Worked examples of what the definitions do not allow, and of a tenant too many, whose entry fits its line.
use Rattle.std.proofs.Common.{Bool, true, ◌≡◌, ℕ, ◌+◌, ◌<◌, ◌≤◌, ◌⊎◌, length, sum, take, zero, suc, pos, false, List, [], ◌∷◌, refl, sym, Option, Some, None, codes, nat_eq, arith, inl, inr, lit≤}
use Rattle.std.proofs.lemmas.Bool.{false≢true}
use Rattle.std.specs.Option.{is_none}
use Rattle.pf_base.specs.Arithmetic.{clamp}
use Rattle.pf_model.specs.declared.expr.Kind.TheVariants as kind
use Rattle.pf_model.specs.Log.{append}
use Rattle.pf_journal.proofs.Examples.{differ, grid, limits_of, named, on_nothing, row, up, up_a, usual}
use Rattle.pf_journal.proofs.Sessions.{ask_up, asked_up, failed_journal, ingested_up}
use Rattle.pf_journal.specs.Entered.{Fits}
use Rattle.pf_journal.specs.Legal.{Moment, machine_after}
use Rattle.pf_journal.specs.Machine.{AreSteps, CanBeCached, IsCode, Open, answer, no_tenant, reserved, started}
use Rattle.pf_journal.specs.Rest.{Told, at_end, at_full, failed_five, journal_full, no_memory, nothing, of_keep, of_plan, of_take, waiting}
use Rattle.pf_journal.specs.Scripts as script
use Rattle.pf_journal.specs.Steps.{busy, keep_refused, none_waits, plan_refused, took}
use Rattle.pf_journal.specs.Turns.{Hand, Turn}
use Rattle.pf_journal.specs.Unentered.{Unentered}
use Rattle.pf_journal.specs.Weave.{AreTried, LacksRoom, RunsTo, ToldBeside}

-- ---- lines

abbrev asked_moment : Moment
asked_moment = record { before = started; entry = asked_up }

-- a line behind the ask, with jobs in hand, and the query's cancel
abbrev turn : List Hand → (cancelled : Option Moment) → Turn
turn hands cancelled = record {
  ran = record { line = ask_up; told = nothing };
  mine = None;
  hands = hands;
  asking = Some (record { line = ask_up; told = nothing });
  asked = Some asked_moment;
  cancelled = cancelled;
  answered = None;
}

abbrev one_hand : List Hand
one_hand = record { worker = 0; query = 0 } ∷ []

abbrev answer_q : script.Line
answer_q = script.answer (codes "q") 2

-- a worker is busy with no job in hand, and takes two
busy_without_a_job : Unentered usual (turn [] None) (script.take 0) (of_take busy) → ⊥
busy_without_a_job h = false≢true h

none_waits_for_a_busy_one : Unentered usual (turn one_hand None) (script.take 0) (of_take none_waits) → ⊥
none_waits_for_a_busy_one h = false≢true (sym h)

two_jobs_in_hand : Unentered usual (turn one_hand None) (script.take 0) (of_take (took 0 1 0 60000 60000)) → ⊥
two_jobs_in_hand h = false≢true (sym h.0)

-- a job of a cancelled query is taken
cancelled_job : Unentered usual (turn [] (Some asked_moment)) (script.take 0) (of_take (took 0 0 0 60000 60000)) → ⊥
cancelled_job h = differ is_none _ _ refl refl (sym h.1.uncancelled)

-- an answer waits for no job, for more than are in hand, and for one of a cancelled query
waits_for_none : Unentered usual (turn [] None) answer_q (waiting 0) → ⊥
waits_for_none h = omega (arith, h.some)

waits_for_two : Unentered usual (turn one_hand None) answer_q (waiting 2) → ⊥
waits_for_two h = differ (nat_eq 2) _ _ refl refl h.counted

waits_though_cancelled : Unentered usual (turn one_hand (Some asked_moment)) answer_q (waiting 1) → ⊥
waits_though_cancelled h = differ is_none _ _ refl refl (sym h.opened.uncancelled)

-- a query that was asked is not answered, and its step lines are refused
no_answer : Unentered usual (turn [] None) answer_q nothing → ⊥
no_answer h = h

plan_of_a_query : Unentered usual (turn [] None) (script.plan (codes "q") 2) (of_plan plan_refused) → ⊥
plan_of_a_query h = h

keep_of_a_query : Unentered usual (turn [] None) (script.keep (codes "q") 2) (of_keep keep_refused) → ⊥
keep_of_a_query h = h

-- nor does its answer lack an entry for want of memory, whether it was cancelled or not
no_entry_for_an_open_query : (cancelled : Option Moment) → Unentered usual (turn [] cancelled) answer_q no_memory → ⊥
no_entry_for_an_open_query cancelled (inl h) = h
no_entry_for_an_open_query cancelled (inr h) = h refl

-- a query that is open is not cancelled by its own tenant
cancel_of_an_open_query : Unentered usual (turn [] None) (script.cancel (codes "q") 2 (codes "acme")) nothing → ⊥
cancel_of_an_open_query h = h (record { query = tt; unanswered = refl; uncancelled = refl }, refl)

-- a tenant too many
no_tenant_fits : Fits usual [] None (script.instant (codes "r") (codes "beta") 0 (codes "1 / 0")) (no_tenant (codes "beta"))
no_tenant_fits = (refl, tt)

-- but not for a query that is refused
no_tenant_after_a_refusal : Fits usual [] None (script.instant (codes "r") (codes "beta") 0 (codes "sum(")) (no_tenant (codes "beta")) → ⊥
no_tenant_after_a_refusal h = h.1

-- ---- clients

-- a client stops before its script's end, and runs on behind the full journal
stops_early : RunsTo usual.limits [] 0 at_end (ask_up ∷ []) [] → ⊥
stops_early h = differ (λ xs. nat_eq (length xs) 0) _ _ refl refl (sym h.1)

runs_on : RunsTo usual.limits [] 0 at_full [] (record { line = ask_up; told = journal_full } ∷ record { line = ask_up; told = nothing } ∷ []) → ⊥
runs_on h = differ (λ xs. nat_eq (length xs) 0) _ _ refl refl (sym h.1)

-- a journal with ample room is full
full_with_room : LacksRoom (limits_of 100 4) (ingested_up ∷ []) 1 ask_up.line → ⊥
full_with_room h = over h.front h.over where
  over : (front : ℕ) → 4 < (machine_after started (take front (ingested_up ∷ []))).count + reserved (machine_after started (take front (ingested_up ∷ []))).queries + 3 → ⊥
  over zero o = omega (arith, o)
  over (suc zero) o = omega (arith, o)
  over (suc (suc n)) o = omega (arith, o)

-- ---- answers

-- a success has no step, and a job that failed five times neither
success_without_steps : AreSteps 1 200 0 → ⊥
success_without_steps (inl h) = differ (nat_eq 0) _ _ refl refl h
success_without_steps (inr (h, inl k)) = differ (nat_eq 200) _ _ refl refl k
success_without_steps (inr (h, inr k)) = differ (nat_eq 200) _ _ refl refl k

failure_without_steps : AreSteps 1 500 0 → ⊥
failure_without_steps (inl h) = differ (nat_eq 0) _ _ refl refl h
failure_without_steps (inr (h, inl k)) = differ (nat_eq 500) _ _ refl refl k
failure_without_steps (inr (h, inr k)) = differ (nat_eq 500) _ _ refl refl k

-- of a range query whose last step isn't frozen two steps may be cached, and not all three
of_three : (instant : Bool) → Open
of_three instant = record {
  place = 1;
  tenant = 0;
  asked = record { query = record { tree = up; grid = grid 60000 60000 3 }; kind = kind.Instant; instant = instant; text = [] };
  log = append (row up_a 780000 (pos 1000000) ∷ []) ∷ [];
  cancelled = None;
}

two_of_three : CanBeCached usual.limits (of_three false) 2
unfolding of_three
two_of_three = record { at_once = λ h. cc; frozen = lit≤ tt }

three_of_three : CanBeCached usual.limits (of_three false) 3 → ⊥
unfolding of_three
three_of_three h = let few = h.frozen in omega (arith, few)

-- and none of an instant query
one_at_once : CanBeCached usual.limits (of_three true) 1 → ⊥
unfolding of_three
one_at_once h = differ (nat_eq 1) _ _ refl refl (h.at_once refl)

-- a success of an error, and an error of a cancelled query
failing : Option ℕ → Open
failing cancelled = record {
  place = 1;
  tenant = 0;
  asked = record { query = record { tree = on_nothing; grid = grid 60000 60000 1 }; kind = kind.Instant; instant = false; text = [] };
  log = append (row (named (codes "up")) 60000 (pos 1000000) ∷ row up_a 60000 (pos 1000000) ∷ []) ∷ [];
  cancelled = cancelled;
}

success_of_an_error : IsCode usual.limits (failing None) None 200 → ⊥
unfolding failing clamp
success_of_an_error (inl h) = differ (nat_eq 200) _ _ refl refl h
success_of_an_error (inr (inl h)) = differ (nat_eq 200) _ _ refl refl h
success_of_an_error (inr (inr h)) = differ (nat_eq 200) _ _ refl refl h

error_though_cancelled : IsCode usual.limits (failing (Some 2)) (Some 2) 422 → ⊥
error_though_cancelled h = differ (nat_eq 422) _ _ refl refl h

-- 500 without the job that failed, and such a job beside a success
failed_without_a_job : ToldBeside (answer 1 500 0 1) nothing → ⊥
failed_without_a_job h = h

success_with_a_failed_job : ToldBeside (answer 1 200 0 1) (failed_five 0) → ⊥
success_with_a_failed_job h = differ is_nothing _ _ refl refl (sym h) where
  is_nothing : Told → Bool
  is_nothing nothing = true
  is_nothing _ = false

-- 500 after four tries
four_tries : AreTried failed_journal (record { clients = []; failed = 4 ∷ [] }) → ⊥
four_tries h = too_few h.five where
  too_few : (sum (4 ∷ []) ≡ 18446744073709551615) ⊎ (5 ≤ 4) → ⊥
  too_few (inl k) = differ (nat_eq 4) _ _ refl refl k
  too_few (inr k) = omega (arith, k)
