-- Step lines.
use Rattle.std.proofs.Common.{◌≡◌, ℕ, zero, suc, ◌+◌, ◌<◌, ◌≤◌, inl, inr, Bool, true, false, cond, nat_eq, Option, Some, None, get_or, is_some, Result, Ok, Err, OnOk, List, [], ◌∷◌, ◌++◌, length, refl, sym, ap, ◌∙◌, subst, slice_get, slice_set, codes, decimal, arith, rules}
use Rattle.std.proofs.lemmas.Bool.Decides.{nat_tests}
use Rattle.pf_core.specs.Calls.{IsTaken, StandsForAsk}
use Rattle.pf_core.specs.Cores.{CoreData, IsSameHistory, Stands, machine_of}
use Rattle.pf_front.specs.Works.{AreCarried, IsIdle, IsWorked, WorksOn}
use Rattle.pf_front.specs.declared.keeping.Keeping.{Keeping}
use Rattle.pf_front.specs.declared.keeping.Keeping.TheVariants as keeping
use Rattle.pf_front.specs.declared.working.Worked.{Worked}
use Rattle.pf_front.specs.declared.working.Worked.TheVariants as worked
use Rattle.pf_journal.proofs.Opened.{IsAmong, all_own, found_among, later_places as later}
use Rattle.pf_journal.specs.Entered.{what_of}
use Rattle.pf_base.specs.declared.plain.Limits.{Limits}
use Rattle.pf_journal.specs.Legal.{IsLawful, Legal, Moment, machine_after, moments, moments_from}
use Rattle.pf_journal.specs.Machine.{Allowed, Entry, Machine, Open, What, append, delete, ask, full, no_tenant, cancel, answer, cancelled_at, closed, log_of, next, open_at, started, with_log}
use Rattle.pf_model.specs.Log.{Change}
use Rattle.pf_journal.specs.Replies.{done_words, keep_words, plan_words, reply_line}
use Rattle.pf_journal.specs.Rest.{Known, Told, of_done, of_keep, of_plan, of_take}
use Rattle.pf_journal.specs.Scripts as script
use Rattle.pf_journal.specs.Scripts.{Numbered}
use Rattle.pf_journal.specs.Steps as steps
use Rattle.pf_journal.specs.Turns.{Hand, Ran, Turn, answer_of, asker_of, asking_ran, cancel_of, holds, moment_at, moment_of, place_of, ran_at}
use Rattle.pf_journal.specs.Unentered.{HasNoQuery, HasQuery, IsOpen, ToldOfKeep, ToldOfPlan}
use Rattle.pf_model.specs.Lists.{Each}
use Rattle.pf_query.specs.Jobs.{hand_of, without_hand}
use Rattle.pf_query.specs.declared.job.Held.{Held}
use Rattle.pf_client.proofs.Answering.{asked_query, no_query_full, no_query_stranger, uncancelled_by}
use Rattle.pf_client.proofs.Cases.{bool_cases}
use Rattle.pf_client.proofs.HandLines.{holds_job, holds_nothing, keeps_hands, keeps_same, tries_on, tries_same}
use Rattle.pf_client.proofs.SlotLaws.{open_in}
use Rattle.pf_client.proofs.Steps.{grows_idle, name_known, step_stayed, step_worked, untried}
use Rattle.pf_client.proofs.Works.{stands_on, taken_idle, taken_in, worked_out, worked_tries}
use Rattle.pf_client.specs.Asks.{IsAskAt, IsNoQuery, SlotRight}
use Rattle.pf_client.specs.Clients.{Grows, IsKnown, IsStep, naming, turn_by}
use Rattle.pf_client.specs.Going.{AreAsked, own_of}
use Rattle.pf_client.specs.Hands.{CountsTries, HaveHands, HoldsJobs, IsLive, done_told, held_by, in_place, jobs_in_hand, keep_told, took_text}
use Rattle.pf_client.specs.declared.client.Client.{Client}
use Rattle.pf_client.specs.declared.client.LineRun.TheVariants as run
use Rattle.pf_client.specs.declared.slots.Slot.{Slot}
use Rattle.pf_client.specs.declared.slots.Slot.TheVariants as slot

-- ---- plan

plan_told : (t : Turn) (p : steps.PlanReply) → (p ≡ steps.plan_refused → ⊥) → HasQuery (what_of t.asked) → ToldOfPlan t (of_plan p)
plan_told t (steps.planned cached jobs) n h = h
plan_told t steps.planned_before n h = h
plan_told t steps.plan_stopped n h = h
plan_told t steps.plan_refused n h = absurd (n refl)

no_query_kept : (known : Known) (above : List Ran) (own : List Moment) (k : ℕ) (s : Option Slot) → IsNoQuery s → (s ≡ None → ⊥) → SlotRight known above own k s → HasNoQuery (what_of (moment_of k own))
no_query_kept known above own k None v kept r = absurd (kept refl)
no_query_kept known above own k (Some (slot.Asked q)) v kept r = absurd v
no_query_kept known above own k (Some (slot.BadGrid e)) v kept r = subst (λ (m : Option Moment). HasNoQuery (what_of m)) (sym r.none) tt
no_query_kept known above own k (Some (slot.BadQuery e)) v kept r = subst (λ (m : Option Moment). HasNoQuery (what_of m)) (sym r.none) tt
no_query_kept known above own k (Some slot.Full) v kept r = no_query_full (what_of (moment_of k own)) r
no_query_kept known above own k (Some slot.TooManyTenants) v kept r = no_query_stranger (what_of (moment_of k own)) r
no_query_kept known above own k (Some slot.NoMemory) v kept r = subst (λ (m : Option Moment). HasNoQuery (what_of m)) (sym r.none) tt

module _ (known : Known) (above : List Ran) (hands : List Hand) (old new : Client) (held : new.hands ≡ old.hands) (number : ℕ) (id : List ℕ) (k : ℕ) where
  -- a query that was opened
  pub step_planned : (q : ℕ) (p : steps.PlanReply) → IsAskAt known above (own_of old.client old.core) k q → (p ≡ steps.plan_refused → ⊥) → WorksOn 0 0 old.core new.core
      → new.out.items ≡ old.out.items ++ reply_line number (codes "plan") id (plan_words (of_plan p))
      → IsStep known (naming (own_of old.client old.core) above hands (script.plan id k)) old (record { number = number; line = script.plan id k }) run.On new
  step_planned q p h n w said =
      step_worked known (naming (own_of old.client old.core) above hands (script.plan id k)) old new (record { number = number; line = script.plan id k }) (of_plan p) w.history refl
      (plan_told (turn_by (naming (own_of old.client old.core) above hands (script.plan id k) (of_plan p)) (record { number = number; line = script.plan id k }) (of_plan p) None) p n
      (asked_query known above (own_of old.client old.core) k q h))
      (tries_on old.core new.core (of_plan p) w.failed refl) (keeps_hands old new (ap (λ v. v.items) held) w.hands) said

  -- an ask that was refused
  pub step_unplanned : (s : Option Slot) → new.core ≡ old.core → IsNoQuery s → (s ≡ None → ⊥) → SlotRight known above (own_of old.client old.core) k s
      → new.out.items ≡ old.out.items ++ reply_line number (codes "plan") id (plan_words (of_plan steps.plan_refused))
      → IsStep known (naming (own_of old.client old.core) above hands (script.plan id k)) old (record { number = number; line = script.plan id k }) run.On new
  step_unplanned s same v kept right said =
      step_stayed known (naming (own_of old.client old.core) above hands (script.plan id k)) old new (record { number = number; line = script.plan id k }) (of_plan steps.plan_refused) same refl refl
      (no_query_kept known above (own_of old.client old.core) k s v kept right) (keeps_same old new (ap (λ v. v.items) held) same) said

-- ---- keep

pub never_refused : (k : Keeping) → keep_told k ≡ steps.keep_refused → ⊥
never_refused (keeping.Kept count) e = cc
never_refused (keeping.Outdated generation) e = cc
never_refused keeping.NoMemory e = cc
never_refused keeping.Failed e = cc
never_refused (keeping.Waits jobs) e = cc
never_refused keeping.Stopped e = cc
never_refused keeping.Unplanned e = cc

keep_is_told : (t : Turn) (p : steps.KeepReply) → (p ≡ steps.keep_refused → ⊥) → HasQuery (what_of t.asked) → ToldOfKeep t (of_keep p)
keep_is_told t (steps.kept count) n h = h
keep_is_told t (steps.outdated generation) n h = h
keep_is_told t steps.keep_lacked n h = h
keep_is_told t steps.keep_failed n h = h
keep_is_told t (steps.keep_waits jobs) n h = h
keep_is_told t steps.keep_stopped n h = h
keep_is_told t steps.keep_refused n h = absurd (n refl)
keep_is_told t steps.unplanned n h = h

module _ (known : Known) (above : List Ran) (hands : List Hand) (old new : Client) (held : new.hands ≡ old.hands) (number : ℕ) (id : List ℕ) (k : ℕ) where
  -- the steps of a query that was opened
  pub step_kept : (q : ℕ) (p : steps.KeepReply) → IsAskAt known above (own_of old.client old.core) k q → (p ≡ steps.keep_refused → ⊥) → WorksOn 0 0 old.core new.core
      → new.out.items ≡ old.out.items ++ reply_line number (codes "keep") id (keep_words (of_keep p))
      → IsStep known (naming (own_of old.client old.core) above hands (script.keep id k)) old (record { number = number; line = script.keep id k }) run.On new
  step_kept q p h n w said =
      step_worked known (naming (own_of old.client old.core) above hands (script.keep id k)) old new (record { number = number; line = script.keep id k }) (of_keep p) w.history refl
      (keep_is_told (turn_by (naming (own_of old.client old.core) above hands (script.keep id k) (of_keep p)) (record { number = number; line = script.keep id k }) (of_keep p) None) p n
      (asked_query known above (own_of old.client old.core) k q h))
      (tries_on old.core new.core (of_keep p) w.failed refl) (keeps_hands old new (ap (λ v. v.items) held) w.hands) said

  -- an ask that was refused
  pub step_unkept : (s : Option Slot) → new.core ≡ old.core → IsNoQuery s → (s ≡ None → ⊥) → SlotRight known above (own_of old.client old.core) k s
      → new.out.items ≡ old.out.items ++ reply_line number (codes "keep") id (keep_words (of_keep steps.keep_refused))
      → IsStep known (naming (own_of old.client old.core) above hands (script.keep id k)) old (record { number = number; line = script.keep id k }) run.On new
  step_unkept s same v kept right said =
      step_stayed known (naming (own_of old.client old.core) above hands (script.keep id k)) old new (record { number = number; line = script.keep id k }) (of_keep steps.keep_refused) same refl refl
      (no_query_kept known above (own_of old.client old.core) k s v kept right) (keeps_same old new (ap (λ v. v.items) held) same) said

-- ---- take

at_place : (m : Machine) (es : List Entry) (x : Moment) → IsAmong x (moments_from m es) → moment_at (place_of x) (moments_from m es) ≡ Some x
at_place m [] x h = absurd h
at_place m (e ∷ es) x (inl same) =
    let s = ap place_of same in
    let t : nat_eq m.count (place_of x) ≡ true = grind (arith, nat_tests, s) in
    rw t (ap (λ (y : Moment). Some y) (sym same))
at_place m (e ∷ es) x (inr h) =
    let s = later (next m e.what) es x h in
    let t : nat_eq m.count (place_of x) ≡ false = grind (arith, nat_tests, s) in
    rw t (at_place (next m e.what) es x h)

pub asked_at_place : (client : ℕ) (known : Known) (above : List Ran) (c : CoreData) (k q : ℕ) → Each (λ (e : Entry). e.client ≡ client) c.journal → (h : IsAskAt known above (own_of client c) k q)
    → moment_at q (own_of client c) ≡ Some h.asked
asked_at_place client known above c k q alone h =
    let all : own_of client c ≡ moments c.journal = all_own client started c.journal alone in
    let among : IsAmong h.asked (moments c.journal) = subst (IsAmong h.asked) all (found_among _ (own_of client c) h.asked h.there) in
    subst (λ (xs : List Moment). moment_at q xs ≡ Some h.asked) (sym all)
    (subst (λ (i : ℕ). moment_at i (moments c.journal) ≡ Some h.asked) h.place (at_place started c.journal h.asked among))

line_of_moment : (k : ℕ) (own : List Moment) (x : Moment) → moment_of k own ≡ Some x → x.entry.line ≡ k
line_of_moment k [] x h = cc
line_of_moment k (y ∷ own) x h = elim (bool_cases (nat_eq y.entry.line k)) [
  | inl t ↦
      let g : Some y ≡ Some x = rw t at h in
      let e : y ≡ x = cc in
      subst (λ (z : Moment). z.entry.line ≡ k) e (grind (arith, nat_tests, t))
  | inr t ↦ let g : moment_of k own ≡ Some x = rw t at h in line_of_moment k own x g
]

-- what is held once a worker has a job or none
got : {X : Type 0} (xs : List X) (i : ℕ) (y : X) → i < length xs → slice_get (slice_set xs i y) i ≡ Some y
got [] i y inside = absurd (omega (arith, inside))
got (x ∷ xs) zero y inside = refl
got (x ∷ xs) (suc i) y inside = got xs i y (omega (arith, inside))

other_got : {X : Type 0} (xs : List X) (i j : ℕ) (y : X) → (i ≡ j → ⊥) → slice_get (slice_set xs i y) j ≡ slice_get xs j
other_got [] i j y n = refl
other_got (x ∷ xs) zero zero y n = absurd (n refl)
other_got (x ∷ xs) zero (suc j) y n = refl
other_got (x ∷ xs) (suc i) zero y n = refl
other_got (x ∷ xs) (suc i) (suc j) y n = other_got xs i j y (λ e. n (ap suc e))

pub held_set : (xs : List (Option Held)) (i : ℕ) (y : Option Held) → i < length xs → (w : ℕ) → held_by (slice_set xs i y) w ≡ cond (nat_eq i w) y (held_by xs w)
held_set xs i y inside w = elim (bool_cases (nat_eq i w)) [
  | inl t ↦
      let e : i ≡ w = grind (arith, nat_tests, t) in
      rw t (subst (λ (j : ℕ). held_by (slice_set xs i y) j ≡ y) e (ap in_place (got xs i y inside)))
  | inr t ↦ rw t (ap in_place (other_got xs i w y (λ e. grind (arith, nat_tests, t, e))))
]

length_set : {X : Type 0} (xs : List X) (i : ℕ) (y : X) → length (slice_set xs i y) ≡ length xs
length_set xs i y = search rules

-- the jobs in workers' hands stand on
pub holds_on : {before after : ℕ} (old new : Client) → new.client ≡ old.client → Grows before after old.core new.core → new.hands ≡ old.hands → HoldsJobs old → HoldsJobs new
holds_on old new client g same h = record {
  many = ap (λ v. length v.items) same ∙ h.many;
  stands = λ w j e.
      let before = h.stands w j (sym (ap (λ v. held_by v.items w) same) ∙ e) in
      (stands_on old.core new.core j g before.0, before.1);
  below = subst (λ (i : ℕ). i < 16) (sym client) h.below;
  idle = subst (IsIdle new.core) (sym client) (g.idle old.client h.below h.idle);
}

-- the same of jobs that are put back
pub holds_same : {before after : ℕ} (old new : Client) → new.client ≡ old.client → Grows before after old.core new.core → new.hands.items ≡ old.hands.items → HoldsJobs old → HoldsJobs new
holds_same old new client g same h = record {
  many = ap length same ∙ h.many;
  stands = λ w j e.
      let before = h.stands w j (sym (ap (λ (xs : List (Option Held)). held_by xs w) same) ∙ e) in
      (stands_on old.core new.core j g before.0, before.1);
  below = subst (λ (i : ℕ). i < 16) (sym client) h.below;
  idle = subst (IsIdle new.core) (sym client) (g.idle old.client h.below h.idle);
}

-- the same of a call
pub holds_if : {A E : Type 0} (old new : Client) (result : Result A E) → OnOk result (new.client ≡ old.client) → OnOk result (Grows 0 0 old.core new.core) → OnOk result (new.hands ≡ old.hands) → HoldsJobs old → OnOk result (HoldsJobs new)
holds_if old new (Ok x) client g same h = holds_on old new client g same h
holds_if old new (Err e) client g same h = tt

-- and with one that was taken
pub holds_taken : {before after : ℕ} (old new : Client) (w : ℕ) (j : Held) → new.client ≡ old.client → Grows before after old.core new.core → new.hands.items ≡ slice_set old.hands.items w (Some j) → w ≤ 15 → StandsForAsk new.core j → j.actor ≡ 16 + w
    → HoldsJobs old → HoldsJobs new
holds_taken old new w j client g set low stands actor h =
    let many = h.many in
    let inside : w < length old.hands.items = omega (arith, many, low) in
    record {
      many = ap length set ∙ length_set old.hands.items w (Some j) ∙ h.many;
      stands = λ v x e. by v x (sym (held_set old.hands.items w (Some j) inside v) ∙ sym (ap (λ (xs : List (Option Held)). held_by xs v) set) ∙ e) (nat_eq w v) refl;
      below = subst (λ (i : ℕ). i < 16) (sym client) h.below;
      idle = subst (IsIdle new.core) (sym client) (g.idle old.client h.below h.idle);
    } where
      by : (v : ℕ) (x : Held) → cond (nat_eq w v) (Some j) (held_by old.hands.items v) ≡ Some x → (b : Bool) → nat_eq w v ≡ b → StandsForAsk new.core x × (x.actor ≡ 16 + v)
      by v x e true t =
          let g2 : Some j ≡ Some x = rw t at e in
          let one : j ≡ x = cc in
          let at_w : w ≡ v = grind (arith, nat_tests, t) in
          (subst (StandsForAsk new.core) one stands, subst (λ (y : Held). y.actor ≡ 16 + v) one (subst (λ (i : ℕ). j.actor ≡ 16 + i) at_w actor))
      by v x e false t =
          let g2 : held_by old.hands.items v ≡ Some x = rw t at e in
          let before = h.stands v x g2 in
          (stands_on old.core new.core x g before.0, before.1)

-- and without one that was worked on
pub holds_dropped : {before after : ℕ} (old new : Client) (w : ℕ) → new.client ≡ old.client → Grows before after old.core new.core → new.hands.items ≡ slice_set old.hands.items w None → w ≤ 15 → HoldsJobs old → HoldsJobs new
holds_dropped old new w client g set low h =
    let many = h.many in
    let inside : w < length old.hands.items = omega (arith, many, low) in
    record {
      many = ap length set ∙ length_set old.hands.items w None ∙ h.many;
      stands = λ v x e. by v x (sym (held_set old.hands.items w None inside v) ∙ sym (ap (λ (xs : List (Option Held)). held_by xs v) set) ∙ e) (nat_eq w v) refl;
      below = subst (λ (i : ℕ). i < 16) (sym client) h.below;
      idle = subst (IsIdle new.core) (sym client) (g.idle old.client h.below h.idle);
    } where
      by : (v : ℕ) (x : Held) → cond (nat_eq w v) None (held_by old.hands.items v) ≡ Some x → (b : Bool) → nat_eq w v ≡ b → StandsForAsk new.core x × (x.actor ≡ 16 + v)
      by v x e true t = let g2 : None ≡ Some x = rw t at e in cc
      by v x e false t =
          let g2 : held_by old.hands.items v ≡ Some x = rw t at e in
          let before = h.stands v x g2 in
          (stands_on old.core new.core x g before.0, before.1)

-- the job of a worker
pub at_worker : (xs : List (Option Held)) (w : ℕ) (d : Option Held) → w < length xs → d ≡ get_or xs w d → held_by xs w ≡ d
at_worker xs w d inside is = ap in_place (by xs w inside) ∙ sym is where
  by : (ys : List (Option Held)) (i : ℕ) → i < length ys → slice_get ys i ≡ Some (get_or ys i d)
  by [] i p = absurd (omega (arith, p))
  by (y ∷ ys) zero p = refl
  by (y ∷ ys) (suc i) p = by ys i (omega (arith, p))

-- nothing taken out is nothing put in
pub none_set : (xs : List (Option Held)) (w : ℕ) (d : Option Held) → w < length xs → d ≡ get_or xs w d → d ≡ None → slice_set xs w None ≡ xs
none_set [] w d inside is none = absurd (omega (arith, inside))
none_set (x ∷ xs) zero d inside is none = ap (λ (y : Option Held). y ∷ xs) (sym (sym is ∙ none))
none_set (x ∷ xs) (suc w) d inside is none = ap (λ (ys : List (Option Held)). x ∷ ys) (none_set xs w d (omega (arith, inside)) is none)

pub some_held : (o : Option Held) → is_some o ≡ true → (j : Held) × (o ≡ Some j)
some_held None t = cc
some_held (Some j) t = (j, refl)

pub none_held : (o : Option Held) → is_some o ≡ false → o ≡ None
none_held None t = refl
none_held (Some j) t = cc

-- what work leaves was legal before
pub legal_same : (old new : CoreData) → IsSameHistory old new → Stands new → Legal old.limits old.names old.journal
legal_same old new h stands =
    subst (λ (l : Limits). Legal l old.names old.journal) h.limits
    (subst (λ (ns : List (List ℕ)). Legal new.limits ns old.journal) h.names
    (subst (λ (es : List Entry). Legal new.limits new.names es) h.journal stands.legal))

pub open_still : (client : ℕ) (known : Known) (above : List Ran) (old new : CoreData) (k q : ℕ) → IsAskAt known above (own_of client old) k q → Each (λ (e : Entry). e.client ≡ client) old.journal → IsSameHistory old new → Stands new
    → open_at q (machine_of old).queries ≡ None → ⊥
open_still client known above old new k q h alone same stands none =
    let law = open_in client known above old k q old.limits old.names (legal_same old new same stands) alone h in
    let there = law.is_open in
    let bad : None ≡ Some law.open_query = sym none ∙ there in
    cc

module _ (known : Known) (above : List Ran) (hands : List Hand) (old new : Client) (number w : ℕ) where
  -- the worker has a job
  pub step_busy : (j : Held) → new.core ≡ old.core → new.hands ≡ old.hands → HaveHands old hands → held_by old.hands.items w ≡ Some j
      → new.out.items ≡ old.out.items ++ reply_line number (codes "take") (decimal w) (codes "busy" ∷ [])
      → IsStep known (naming (own_of old.client old.core) above hands (script.take w)) old (record { number = number; line = script.take w }) run.On new
  step_busy j same held have there said =
      step_stayed known (naming (own_of old.client old.core) above hands (script.take w)) old new (record { number = number; line = script.take w }) (of_take steps.busy) same refl refl
      (holds_job old hands w j have there) (keeps_same old new (ap (λ v. v.items) held) same) said

  -- no job waits
  pub step_none : new.core ≡ old.core → new.hands ≡ old.hands → HaveHands old hands → held_by old.hands.items w ≡ None
      → new.out.items ≡ old.out.items ++ reply_line number (codes "take") (decimal w) (codes "none" ∷ [])
      → IsStep known (naming (own_of old.client old.core) above hands (script.take w)) old (record { number = number; line = script.take w }) run.On new
  step_none same held have vacant said =
      step_stayed known (naming (own_of old.client old.core) above hands (script.take w)) old new (record { number = number; line = script.take w }) (of_take steps.none_waits) same refl refl
      (holds_nothing old hands w have vacant) (keeps_same old new (ap (λ v. v.items) held) same) said

  -- a job was taken
  module _ (j : Held) (taken : IsTaken old.core (16 + w) j new.core) (alone : Each (λ (e : Entry). e.client ≡ old.client) old.core.journal) (stands : Stands new.core) (asked : AreAsked old.client known above old.core)
      (kn : IsKnown known new.core) where
    history : IsSameHistory old.core new.core
    history = taken.leaves.history

    there : open_at j.head.query (machine_of old.core).queries ≡ Some taken.whole.opened
    there = subst (λ (es : List Entry). open_at j.head.query (machine_after started es).queries ≡ Some taken.whole.opened) history.journal taken.whole.is_open

    asking : (k : ℕ) × IsAskAt known above (own_of old.client old.core) k j.head.query
    asking = asked j.head.query taken.whole.opened there

    found : moment_at j.head.query (own_of old.client old.core) ≡ Some asking.1.asked
    found = asked_at_place old.client known above old.core asking.0 j.head.query alone asking.1

    told : Told
    told = of_take (steps.took j.head.query j.head.job j.head.leg j.head.first j.head.last)

    legal : Legal old.core.limits old.core.names old.core.journal
    legal =
        subst (λ (l : Limits). Legal l old.core.names old.core.journal) history.limits
        (subst (λ (ns : List (List ℕ)). Legal new.core.limits ns old.core.journal) history.names
        (subst (λ (es : List Entry). Legal new.core.limits new.core.names es) history.journal stands.legal))

    opened : (t : Turn) → t.asked ≡ Some asking.1.asked → t.cancelled ≡ cancel_of t.asked (own_of old.client old.core) → t.answered ≡ answer_of t.asked (own_of old.client old.core) → IsOpen t
    opened t a c n = record {
      query = subst (λ (m : Option Moment). HasQuery (what_of m)) (sym a) (subst (λ (x : What). HasQuery (Some x)) (sym asking.1.is) tt);
      unanswered = n ∙ ap (λ (m : Option Moment). answer_of m (own_of old.client old.core)) a ∙ asking.1.unanswered;
      uncancelled = c ∙ ap (λ (m : Option Moment). cancel_of m (own_of old.client old.core)) a
          ∙ uncancelled_by old.client known above old.core asking.0 j.head.query legal alone asking.1 taken.whole.opened there taken.whole.cancelled_at;
    }

    -- the tenant's name is the one that the ask names
    named : (name : List ℕ) → slice_get old.core.names j.head.tenant ≡ Some name → asker_of (asking_ran None (moment_at j.head.query (own_of old.client old.core)) above) ≡ name
    named name n =
        let line : asking.1.asked.entry.line ≡ asking.0 = line_of_moment asking.0 (own_of old.client old.core) asking.1.asked asking.1.there in
        let ran : asking_ran None (moment_at j.head.query (own_of old.client old.core)) above ≡ ran_at asking.0 above =
        ap (λ (m : Option Moment). asking_ran None m above) found ∙ ap (λ (i : ℕ). ran_at i above) line in
        let law = open_in old.client known above old.core asking.0 j.head.query old.core.limits old.core.names legal alone asking.1 in
        let is_open = law.is_open in
        let open_there = there in
        let one : law.open_query ≡ taken.whole.opened = cc in
        let owned : j.head.tenant ≡ asking.1.tenant = taken.own ∙ sym taken.owner ∙ sym (ap (λ (o : Open). o.tenant) one) ∙ law.owner in
        let new_named : slice_get new.core.names j.head.tenant ≡ Some name = subst (λ (ns : List (List ℕ)). slice_get ns j.head.tenant ≡ Some name) (sym history.names) n in
        let known_name : slice_get known.names asking.1.tenant ≡ Some name =
        subst (λ (u : ℕ). slice_get known.names u ≡ Some name) owned (name_known known new.core j.head.tenant name kn new_named) in
        let asker = asking.1.named in
        let both : Some name ≡ Some (asker_of (ran_at asking.0 above)) = sym known_name ∙ asker in
        let same : name ≡ asker_of (ran_at asking.0 above) = cc in
        ap asker_of ran ∙ sym same

    pub step_taken : (name : List ℕ) → slice_get old.core.names j.head.tenant ≡ Some name → HaveHands old hands → held_by old.hands.items w ≡ None → w < length old.hands.items
        → new.hands.items ≡ slice_set old.hands.items w (Some j)
        → new.out.items ≡ old.out.items ++ took_text number w name j.head
        → IsStep known (naming (own_of old.client old.core) above hands (script.take w)) old (record { number = number; line = script.take w }) run.On new
    unfolding told
    step_taken name n have vacant inside set said =
        step_worked known (naming (own_of old.client old.core) above hands (script.take w)) old new (record { number = number; line = script.take w }) told history refl (
          holds_nothing old hands w have vacant,
          opened (turn_by (naming (own_of old.client old.core) above hands (script.take w) told) (record { number = number; line = script.take w }) told None) found refl refl,
        )
        (tries_same old.core new.core told taken.leaves.failed refl)
        (record {
          job = j;
          actor = taken.actor_is;
          of_query = refl;
          vacant = vacant;
          held = λ v. ap (λ (xs : List (Option Held)). held_by xs v) set ∙ held_set old.hands.items w (Some j) inside v;
          jobs = taken_in old.core new.core (16 + w) j taken;
        })
        (said ∙ ap (λ (x : List ℕ). old.out.items ++ took_text number w x j.head) (sym (named name n)))

  -- ---- done

  -- the worker has no job
  pub step_empty : new.core ≡ old.core → new.hands.items ≡ old.hands.items → HaveHands old hands → held_by old.hands.items w ≡ None
      → new.out.items ≡ old.out.items ++ reply_line number (codes "done") (decimal w) (done_words (of_done steps.empty))
      → IsStep known (naming (own_of old.client old.core) above hands (script.done w)) old (record { number = number; line = script.done w }) run.On new
  step_empty same held have vacant said =
      step_stayed known (naming (own_of old.client old.core) above hands (script.done w)) old new (record { number = number; line = script.done w }) (of_done steps.empty) same refl refl
      (holds_nothing old hands w have vacant) (vacant, keeps_same old new held same) said

  -- a job was worked on
  pub step_done : (before after : ℕ) (j : Held) (x : Worked) → IsWorked before after old.core j x new.core → StandsForAsk old.core j → j.actor ≡ 16 + w → w ≤ 15 → Stands new.core
      → HaveHands old hands → held_by old.hands.items w ≡ Some j → w < length old.hands.items → new.hands.items ≡ slice_set old.hands.items w None
      → new.out.items ≡ old.out.items ++ reply_line number (codes "done") (decimal w) (done_words (of_done (done_told x)))
      → IsStep known (naming (own_of old.client old.core) above hands (script.done w)) old (record { number = number; line = script.done w }) run.On new
  step_done before after j x did stands actor low new_stands have there inside set said =
      let out = worked_out old.core new.core j stands before after x did in
      let journal = out.0.journal in
      let live : (u q : ℕ) → IsLive new.core u q → IsLive old.core u q = λ u q a. live_same old.core new.core journal u q a in
      let tried = worked_tries old.core new.core j (omega (arith, actor, low)) new_stands.actors before after x did in
      by x (holds_job old hands w j have there) tried
      (λ v. ap (λ (xs : List (Option Held)). held_by xs v) set ∙ held_set old.hands.items w None inside v) (λ u q a. out.1 u q (live u q a)) said where
        left : IsSameHistory old.core new.core
        left = (worked_out old.core new.core j stands before after x did).0

        live_same : (a b : CoreData) → b.journal ≡ a.journal → (u q : ℕ) → IsLive b u q → IsLive a u q
        live_same a b journal u q h =
            subst (λ (es : List Entry). IsLive (record a { journal = es }) u q) journal h

        by : (y : Worked) → holds w hands ≡ true → CountsTries old.core (of_done (done_told y)) new.core
            → ((v : ℕ) → held_by new.hands.items v ≡ cond (nat_eq w v) None (held_by old.hands.items v))
            → ((u q : ℕ) → IsLive new.core u q → jobs_in_hand new.core u q ≡ without_hand (hand_of j) (jobs_in_hand old.core u q))
            → new.out.items ≡ old.out.items ++ reply_line number (codes "done") (decimal w) (done_words (of_done (done_told y)))
            → IsStep known (naming (own_of old.client old.core) above hands (script.done w)) old (record { number = number; line = script.done w }) run.On new
        by worked.Stored h t v jobs s = step_worked known (naming (own_of old.client old.core) above hands (script.done w)) old new (record { number = number; line = script.done w }) (of_done steps.stored) left refl h t (record { job = j; there = there; actor = actor; held = v; jobs = jobs }) s
        by (worked.Again tries) h t v jobs s = step_worked known (naming (own_of old.client old.core) above hands (script.done w)) old new (record { number = number; line = script.done w }) (of_done (steps.again tries)) left refl h t (record { job = j; there = there; actor = actor; held = v; jobs = jobs }) s
        by (worked.Exhausted job) h t v jobs s = step_worked known (naming (own_of old.client old.core) above hands (script.done w)) old new (record { number = number; line = script.done w }) (of_done (steps.exhausted job)) left refl h t (record { job = j; there = there; actor = actor; held = v; jobs = jobs }) s
        by worked.Lacked h t v jobs s = step_worked known (naming (own_of old.client old.core) above hands (script.done w)) old new (record { number = number; line = script.done w }) (of_done steps.lacked) left refl h t (record { job = j; there = there; actor = actor; held = v; jobs = jobs }) s
        by (worked.Gone why) h t v jobs s = step_worked known (naming (own_of old.client old.core) above hands (script.done w)) old new (record { number = number; line = script.done w }) (of_done (done_told (worked.Gone why))) left refl h t (record { job = j; there = there; actor = actor; held = v; jobs = jobs }) s
        by worked.NotHeld h t v jobs s = step_worked known (naming (own_of old.client old.core) above hands (script.done w)) old new (record { number = number; line = script.done w }) (of_done steps.not_held) left refl h t (record { job = j; there = there; actor = actor; held = v; jobs = jobs }) s

pub grows_worked : (old new : CoreData) (j : Held) (before after : ℕ) (x : Worked) → StandsForAsk old j → IsWorked before after old j x new → ((client : ℕ) → client < 16 → IsIdle old client → IsIdle new client)
    → AreCarried before after old new → Grows before after old new
grows_worked old new j before after x stands did idle carried = grows_idle old new (worked_out old new j stands before after x did).0 idle carried

pub grows_taken : (old new : CoreData) (w : ℕ) (j : Held) → IsTaken old (16 + w) j new → Grows 0 0 old new
grows_taken old new w j t = grows_idle old new t.leaves.history (λ client below. taken_idle old new (16 + w) client j t (omega (arith, below))) (untried old new t.leaves.failed)

-- ---- names

with_log_long : (ls : List (List Change)) (u : ℕ) (log : List Change) → length ls ≤ length (with_log ls u log)
with_log_long [] u log = omega arith
with_log_long (l ∷ ls) zero log = omega arith
with_log_long (l ∷ ls) (suc u) log = let more = with_log_long ls u log in omega (arith, more)

with_log_at : (ls : List (List Change)) (u : ℕ) (log : List Change) → u ≤ length ls → u < length (with_log ls u log)
with_log_at [] u log h = omega (arith, h)
with_log_at (l ∷ ls) zero log h = omega arith
with_log_at (l ∷ ls) (suc u) log h = let more = with_log_at ls u log (omega (arith, h)) in omega (arith, more)

abbrev AreKnown : ℕ → List Open → Type 0
AreKnown n qs = Each (λ (o : Open). o.tenant < n) qs

known_more : (n m : ℕ) (qs : List Open) → n ≤ m → AreKnown n qs → AreKnown m qs
known_more n m [] low h = tt
known_more n m (q ∷ qs) low h = let k = h.0 in (omega (arith, k, low), known_more n m qs low h.1)

known_pushed : (n : ℕ) (qs : List Open) (o : Open) → AreKnown n qs → o.tenant < n → AreKnown n (qs ++ o ∷ [])
known_pushed n [] o h k = (k, tt)
known_pushed n (q ∷ qs) o h k = (h.0, known_pushed n qs o h.1 k)

known_closed : (n place : ℕ) (qs : List Open) → AreKnown n qs → AreKnown n (closed place qs)
known_closed n place [] h = tt
known_closed n place (q ∷ qs) h = elim (bool_cases (nat_eq q.place place)) [
  | inl t ↦ rw t (known_closed n place qs h.1)
  | inr t ↦ rw t (h.0, known_closed n place qs h.1)
]

known_cancelled : (n at place : ℕ) (qs : List Open) → AreKnown n qs → AreKnown n (cancelled_at at place qs)
known_cancelled n at place [] h = tt
known_cancelled n at place (q ∷ qs) h = elim (bool_cases (nat_eq q.place place)) [
  | inl t ↦ rw t (h.0, h.1)
  | inr t ↦ rw t (h.0, known_cancelled n at place qs h.1)
]

known_next : (l : Limits) (names : List (List ℕ)) (m : Machine) (w : What) → Allowed l names m w → AreKnown (length m.logs) m.queries → AreKnown (length (next m w).logs) (next m w).queries
known_next l names m (append u batch vs entry) a h = known_more _ _ m.queries (with_log_long m.logs u _) h
known_next l names m (delete u ms from to generation entry) a h = known_more _ _ m.queries (with_log_long m.logs u _) h
known_next l names m (ask u asked pin generation floor) a h =
    known_pushed _ m.queries _ (known_more _ _ m.queries (with_log_long m.logs u (log_of m.logs u)) h) (with_log_at m.logs u (log_of m.logs u) a.tenant.next)
known_next l names m (full u outstanding) a h = h
known_next l names m (no_tenant name) a h = h
known_next l names m (cancel query) a h = known_cancelled (length m.logs) m.count query m.queries h
known_next l names m (answer query code cached evaluated) a h = known_closed (length m.logs) query m.queries h

known_after : (l : Limits) (names : List (List ℕ)) (m : Machine) (es : List Entry) → Each (IsLawful l names) (moments_from m es) → AreKnown (length m.logs) m.queries
    → AreKnown (length (machine_after m es).logs) (machine_after m es).queries
known_after l names m [] lawful h = h
known_after l names m (e ∷ es) lawful h = known_after l names (next m e.what) es lawful.1 (known_next l names m e.what lawful.0.allowed h)

known_at : (n q : ℕ) (qs : List Open) (o : Open) → AreKnown n qs → open_at q qs ≡ Some o → o.tenant < n
known_at n q [] o h g = cc
known_at n q (x ∷ qs) o h g = elim (bool_cases (nat_eq x.place q)) [
  | inl t ↦
      let there : Some x ≡ Some o = rw t at g in
      let e : x ≡ o = cc in
      subst (λ (y : Open). y.tenant < n) e h.0
  | inr t ↦ let there : open_at q qs ≡ Some o = rw t at g in known_at n q qs o h.1 there
]

name_at : (names : List (List ℕ)) (u : ℕ) → u < length names → (name : List ℕ) × (slice_get names u ≡ Some name)
name_at [] u h = absurd (omega (arith, h))
name_at (n ∷ names) zero h = (n, refl)
name_at (n ∷ names) (suc u) h = name_at names u (omega (arith, h))

-- the tenant of a job that was taken has a name
pub named_tenant : (old new : CoreData) (actor : ℕ) (j : Held) → IsTaken old actor j new → Stands new → (name : List ℕ) × (slice_get old.names j.head.tenant ≡ Some name)
named_tenant old new actor j t stands =
    let low = known_at _ j.head.query (machine_of new).queries t.whole.opened (known_after new.limits new.names started new.journal stands.legal tt) t.whole.is_open in
    let many = stands.names.many in
    let owned : j.head.tenant ≡ t.whole.opened.tenant = t.own ∙ sym t.owner in
    let named = name_at new.names j.head.tenant (omega (arith, low, many, owned)) in
    (named.0, subst (λ (ns : List (List ℕ)). slice_get ns j.head.tenant ≡ Some named.0) t.leaves.history.names named.1)
