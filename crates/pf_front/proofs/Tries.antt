-- What a take of a job and the work on it leave.
use Rattle.std.proofs.Common.{◌≡◌, inl, inr, ℕ, ◌+◌, ◌<◌, ◌≤◌, Bool, true, false, cond, nat_lt, Option, None, Some, List, length, refl, sym, ap, ◌∙◌, arith, slice_set, subst}
use Rattle.std.specs.Prelude.{slice_index_or, sum}
use Rattle.std.proofs.lemmas.Bool.{false≢true}
use Rattle.std.proofs.lemmas.Bool.Decides.{nat_tests}
use Rattle.std.proofs.lemmas.List.{set_past}
use Rattle.std.proofs.lemmas.List.Sums.{sum_by-set}
use Rattle.pf_core.specs.Calls.{ChangesQueue, IsLackedBy, IsNotHeld, IsReleased, IsTaken, Releases, StopsQuery, counted, is_in_hand, tried_after}
use Rattle.pf_core.specs.Cores.{CoreData, HasQueue, IsSameHistory, machine_of, queue_at}
use Rattle.pf_core.specs.Jobs.{QueueHeads, failures_after}
use Rattle.pf_core.specs.Progress.{QueryProgress, exhausted, stopped}
use Rattle.pf_front.proofs.Hands.{IsNotOf, each_without, idle_with, in_hand_last, same_hands}
use Rattle.pf_front.proofs.Progress.{begun_exhausted, begun_if, begun_same, begun_stopped, begun_tried, not_none}
use Rattle.pf_front.specs.Settling.{IsBegun}
use Rattle.pf_io.specs.Outside.{Rose}
use Rattle.pf_front.specs.Works.{AreCarried, HasFailed, IsEvaluated, IsIdle, IsWorked, WorksOn}
use Rattle.pf_front.specs.declared.working.Worked.{Worked}
use Rattle.pf_front.specs.declared.working.Worked.TheVariants as worked
use Rattle.pf_journal.specs.Machine.{Open, open_at}
use Rattle.pf_model.specs.Lists.{Each}
use Rattle.pf_query.specs.Jobs.{hand_of, has_hand, without_hand}
use Rattle.pf_query.specs.declared.job.Hand.{Hand}
use Rattle.pf_query.specs.declared.job.Held.{Held}
use Rattle.pf_query.specs.declared.stop.Stop.{Stop}
use Rattle.pf_query.specs.declared.stop.Stop.TheVariants.{Starved}

-- ---- counts

set_rises : (fs : List ℕ) (actor : ℕ) (b : Bool) → nat_lt actor (length fs) ≡ b → sum fs ≤ sum (slice_set fs actor (slice_index_or fs actor 0 + 1))
set_rises fs actor true e =
    let within : actor < length fs = grind (arith, nat_tests) in
    let set = sum_by-set (λ (n : ℕ). n) fs actor (slice_index_or fs actor 0 + 1) 0 within in
    omega (arith, set)
set_rises fs actor false e =
    let past : length fs ≤ actor = grind (arith, nat_tests) in
    let is = set_past fs actor (slice_index_or fs actor 0 + 1) past in
    omega (arith, ap (λ (l : List ℕ). sum l) is)

set_by_one : (fs : List ℕ) (actor : ℕ) (b : Bool) → nat_lt actor (length fs) ≡ b → sum (slice_set fs actor (slice_index_or fs actor 0 + 1)) ≤ sum fs + 1
set_by_one fs actor true e =
    let within : actor < length fs = grind (arith, nat_tests) in
    let set = sum_by-set (λ (n : ℕ). n) fs actor (slice_index_or fs actor 0 + 1) 0 within in
    omega (arith, set)
set_by_one fs actor false e =
    let past : length fs ≤ actor = grind (arith, nat_tests) in
    let is = set_past fs actor (slice_index_or fs actor 0 + 1) past in
    omega (arith, ap (λ (l : List ℕ). sum l) is)

at_most_one : (b : Bool) (fs gs : List ℕ) → sum gs ≤ sum fs + 1 → sum (cond b gs fs) ≤ sum fs + 1
at_most_one true fs gs h = h
at_most_one false fs gs h = omega arith

one_more : (fs : List ℕ) (actor : ℕ) → sum (failures_after fs actor) ≤ sum fs + 1
one_more fs actor =
    at_most_one (nat_lt (sum fs) 18446744073709551615) fs (slice_set fs actor (slice_index_or fs actor 0 + 1))
    (set_by_one fs actor (nat_lt actor (length fs)) refl)

rises_by : (b : Bool) (fs gs : List ℕ) → sum fs ≤ sum gs → sum fs ≤ sum (cond b gs fs)
rises_by true fs gs h = h
rises_by false fs gs h = omega arith

pub failures_rise : (fs : List ℕ) (actor : ℕ) → sum fs ≤ sum (failures_after fs actor)
failures_rise fs actor =
    rises_by (nat_lt (sum fs) 18446744073709551615) fs (slice_set fs actor (slice_index_or fs actor 0 + 1))
    (set_rises fs actor (nat_lt actor (length fs)) refl)

pub same_sum : (fs gs : List ℕ) → gs ≡ fs → sum fs ≤ sum gs
same_sum fs gs e = subst (λ (l : List ℕ). sum fs ≤ sum l) (sym e) (omega arith)

pub same_failed : (old new : CoreData) → new.failed ≡ old.failed → AreCarried 0 0 old new
same_failed old new e = inr (let s = same_sum new.failed old.failed (sym e) in omega (arith, s))

-- ---- works, one after another

pub works_refl : {count : ℕ} (c : CoreData) → WorksOn count count c c
works_refl c = record { history = record { limits = refl; names = refl; journal = refl }; hands = λ u. refl; failed = omega arith; carried = inr (omega arith) }

pub same_history : (a b c : CoreData) → IsSameHistory a b → IsSameHistory b c → IsSameHistory a c
same_history a b c x y = record { limits = y.limits ∙ x.limits; names = y.names ∙ x.names; journal = y.journal ∙ x.journal }

carried_by : (before after : ℕ) (a b c : CoreData) → AreCarried 0 0 a b → AreCarried before after b c → AreCarried before after a c
carried_by before after a b c (inl past) y = absurd (omega (arith, past))
carried_by before after a b c (inr x) (inl past) = inl past
carried_by before after a b c (inr x) (inr y) = inr (omega (arith, x, y))

carried_on : (before middle after : ℕ) (a b c : CoreData) → middle ≤ after → AreCarried before middle a b → AreCarried middle after b c → AreCarried before after a c
carried_on before middle after a b c rises (inl past) y = inl (omega (arith, past, rises))
carried_on before middle after a b c rises (inr x) (inl past) = inl past
carried_on before middle after a b c rises (inr x) (inr y) = inr (omega (arith, x, y))

none_behind : (before after : ℕ) (a b c : CoreData) → AreCarried before after a b → AreCarried 0 0 b c → AreCarried before after a c
none_behind before after a b c (inl past) y = inl past
none_behind before after a b c (inr x) (inl past) = absurd (omega (arith, past))
none_behind before after a b c (inr x) (inr y) = inr (omega (arith, x, y))

-- behind works without a hop
pub works_trans : {before after : ℕ} (a b c : CoreData) → WorksOn 0 0 a b → WorksOn before after b c → WorksOn before after a c
works_trans a b c x y = record {
  history = same_history a b c x.history y.history;
  hands = λ u. y.hands u ∙ x.hands u;
  failed = let p = x.failed in let q = y.failed in omega (arith, p, q);
  carried = carried_by _ _ a b c x.carried y.carried;
}

-- behind works of the same hop
pub works_on : {before middle after : ℕ} (a b c : CoreData) → middle ≤ after → WorksOn before middle a b → WorksOn middle after b c → WorksOn before after a c
works_on a b c rises x y = record {
  history = same_history a b c x.history y.history;
  hands = λ u. y.hands u ∙ x.hands u;
  failed = let p = x.failed in let q = y.failed in omega (arith, p, q);
  carried = carried_on _ _ _ a b c rises x.carried y.carried;
}

-- before works without a hop
pub works_behind : {before after : ℕ} (a b c : CoreData) → WorksOn before after a b → WorksOn 0 0 b c → WorksOn before after a c
works_behind a b c x y = record {
  history = same_history a b c x.history y.history;
  hands = λ u. y.hands u ∙ x.hands u;
  failed = let p = x.failed in let q = y.failed in omega (arith, p, q);
  carried = none_behind _ _ a b c x.carried y.carried;
}

pub idle_works : {before after : ℕ} (a b : CoreData) (actor : ℕ) → WorksOn before after a b → IsIdle a actor → IsIdle b actor
idle_works a b actor w idle u = subst (λ (hs : List Hand). Each (IsNotOf actor) hs) (sym (w.hands u)) (idle u)

-- ---- a job is put away

-- what every end of a try leaves
record Follows (mid : CoreData) (u : ℕ) (h : Hand) (new : CoreData) : Type 0 where
  history : IsSameHistory mid new
  failed : sum mid.failed ≤ sum new.failed
  left : QueueHeads
  ring : List ℕ
  queue_is : HasQueue mid u left ring new
  fewer : left.hands ≡ without_hand h (queue_at mid u).hands
  begun : (query : ℕ) → IsBegun mid query → IsBegun new query

releases : (mid : CoreData) (held : Held) (new : CoreData) (far : List QueryProgress) → Releases mid held far new
    → ((query : ℕ) → IsBegun mid query → IsBegun new query) → Follows mid held.head.tenant (hand_of held) new
releases mid held new far r begun = record {
  history = r.history;
  failed = same_sum mid.failed new.failed r.failed;
  left = _;
  ring = _;
  queue_is = r.queue_is;
  fewer = refl;
  begun = begun;
}

released : (mid : CoreData) (held : Held) (new : CoreData) → IsReleased mid held new → Follows mid held.head.tenant (hand_of held) new
released mid held new r = releases mid held new mid.progress r (λ query b. begun_same mid new query r.progress_is b)

-- after a failed try
gone : (mid : CoreData) (held : Held) (new : CoreData) → Releases mid held (cond (is_in_hand mid held) (tried_after mid held) mid.progress) new
    → Follows mid held.head.tenant (hand_of held) new
gone mid held new r = releases mid held new _ r (λ query b. begun_if mid new held.head.query query (is_in_hand mid held) r.progress_is b)

lacked : (mid : CoreData) (held : Held) (new : CoreData) (o : Open) (why : Stop)
    → StopsQuery mid o.tenant held.head.query (stopped why) (without_hand (hand_of held) (queue_at mid o.tenant).hands) new → Follows mid o.tenant (hand_of held) new
lacked mid held new o why s = record {
  history = s.history;
  failed = same_sum mid.failed new.failed s.failed;
  left = _;
  ring = _;
  queue_is = s.left;
  fewer = refl;
  begun = λ query b. begun_stopped mid new held.head.query why query s.progress_is b;
}

-- as far as the counts of failed tries don't matter
uncounted : (mid : CoreData) (actor u : ℕ) (h : Hand) (new : CoreData) → Follows (counted mid actor) u h new → Follows mid u h new
uncounted mid actor u h new f = record {
  history = record { limits = f.history.limits; names = f.history.names; journal = f.history.journal };
  failed = let p = failures_rise mid.failed actor in let q = f.failed in omega (arith, p, q);
  left = f.left;
  ring = f.ring;
  queue_is = record { here = f.queue_is.here; others = f.queue_is.others; ring_is = f.queue_is.ring_is };
  fewer = f.fewer;
  begun = λ query b. f.begun query (record { far = b.far; is_far = b.is_far; begun = b.begun });
}

-- the end of a try of a job that is in hand
follows_evaluated : (mid : CoreData) (held : Held) (r : Worked) (new : CoreData) (o : Open) → open_at held.head.query (machine_of mid).queries ≡ Some o
    → o.tenant ≡ held.head.tenant → (IsNotHeld mid held → ⊥) → IsEvaluated mid held r new → Follows mid held.head.tenant (hand_of held) new
follows_evaluated mid held worked.Stored new o there own in_hand e = released mid held new e.1.1
follows_evaluated mid held (worked.Again tries) new o there own in_hand e = absurd e
follows_evaluated mid held (worked.Exhausted job) new o there own in_hand e = absurd e
follows_evaluated mid held worked.Lacked new o there own in_hand e =
    subst (λ (u : ℕ). Follows mid u (hand_of held) new) own (lacked mid held new o Starved (e.some o there))
follows_evaluated mid held (worked.Gone why) new o there own in_hand e = released mid held new e.1
follows_evaluated mid held worked.NotHeld new o there own in_hand e = absurd (in_hand e.0)

put_back : (mid : CoreData) (held : Held) (new : CoreData) (waiting : QueueHeads) (ring : List ℕ)
    → waiting.hands ≡ without_hand (hand_of held) (queue_at mid held.head.tenant).hands
    → ChangesQueue mid held.head.tenant waiting ring (tried_after mid held) mid.kept new → Follows mid held.head.tenant (hand_of held) new
put_back mid held new waiting ring hands r = record {
  history = r.history;
  failed = same_sum mid.failed new.failed r.failed;
  left = _;
  ring = _;
  queue_is = r.queue_is;
  fewer = hands;
  begun = λ query b. begun_tried mid new held.head.query query r.progress_is b;
}

last_failed : (mid : CoreData) (held : Held) (new : CoreData) (job : ℕ)
    → StopsQuery mid held.head.tenant held.head.query (exhausted job) (without_hand (hand_of held) (queue_at mid held.head.tenant).hands) new
    → Follows mid held.head.tenant (hand_of held) new
last_failed mid held new job s = record {
  history = s.history;
  failed = same_sum mid.failed new.failed s.failed;
  left = _;
  ring = _;
  queue_is = s.left;
  fewer = refl;
  begun = λ query b. begun_exhausted mid new held.head.query job query s.progress_is b;
}

not_held_counted : (mid : CoreData) (held : Held) → IsNotHeld (counted mid held.actor) held → IsNotHeld mid held
not_held_counted mid held (inl none) = inl none
not_held_counted mid held (inr (w, out)) =
    inr (record { opened = w.opened; is_open = w.is_open; cancelled_at = w.cancelled_at; far = w.far; is_far = w.is_far; stop_is = w.stop_is }, out)

follows_failed : (mid : CoreData) (held : Held) (r : Worked) (new : CoreData) → (IsNotHeld mid held → ⊥) → HasFailed mid held r new
    → Follows mid held.head.tenant (hand_of held) new
follows_failed mid held worked.Stored new in_hand e = absurd e
follows_failed mid held (worked.Again tries) new in_hand e =
    uncounted mid held.actor held.head.tenant (hand_of held) new (put_back (counted mid held.actor) held new _ _ refl e.1.1.1.1)
follows_failed mid held (worked.Exhausted job) new in_hand e =
    uncounted mid held.actor held.head.tenant (hand_of held) new (last_failed (counted mid held.actor) held new job e.1.1.1.1)
follows_failed mid held worked.Lacked new in_hand e = absurd e
follows_failed mid held (worked.Gone why) new in_hand e =
    uncounted mid held.actor held.head.tenant (hand_of held) new (gone (counted mid held.actor) held new e.1)
follows_failed mid held worked.NotHeld new in_hand e = absurd (in_hand (not_held_counted mid held e.0))

-- ---- a failed try has its hop

failed_of : (old : CoreData) (held : Held) (r : Worked) (new : CoreData) → HasFailed old held r new → new.failed ≡ failures_after old.failed held.actor
failed_of old held worked.Stored new e = absurd e
failed_of old held (worked.Again tries) new e = e.1.1.1.1.failed
failed_of old held (worked.Exhausted job) new e = e.1.1.1.1.failed
failed_of old held worked.Lacked new e = absurd e
failed_of old held (worked.Gone why) new e = e.1.failed
failed_of old held worked.NotHeld new e = ap (λ (c : CoreData). c.failed) e.1

lacked_of : (old : CoreData) (held : Held) (new : CoreData) (found : Option Open) → open_at held.head.query (machine_of old).queries ≡ found
    → IsLackedBy old held new → new.failed ≡ old.failed
lacked_of old held new None there e = ap (λ (c : CoreData). c.failed) (e.none there)
lacked_of old held new (Some o) there e = (e.some o there).failed

evaluated_of : (old : CoreData) (held : Held) (r : Worked) (new : CoreData) → IsEvaluated old held r new → new.failed ≡ old.failed
evaluated_of old held worked.Stored new e = e.1.1.failed
evaluated_of old held (worked.Again tries) new e = absurd e
evaluated_of old held (worked.Exhausted job) new e = absurd e
evaluated_of old held worked.Lacked new e = lacked_of old held new (open_at held.head.query (machine_of old).queries) refl e
evaluated_of old held (worked.Gone why) new e = e.1.failed
evaluated_of old held worked.NotHeld new e = ap (λ (c : CoreData). c.failed) e.1

rose_carried : (before after : ℕ) (old new : CoreData) → Rose before after → sum new.failed ≤ sum old.failed + 1 → AreCarried before after old new
rose_carried before after old new (inl less) one = inr (omega (arith, less, one))
rose_carried before after old new (inr past) one = inl past

pub worked_carried : (before after : ℕ) (old : CoreData) (held : Held) (r : Worked) (new : CoreData) → IsWorked before after old held r new
    → AreCarried before after old new
worked_carried before after old held r new (inl (rose, e)) =
    let one = one_more old.failed held.actor in
    rose_carried before after old new rose
    (subst (λ (fs : List ℕ). sum fs ≤ sum old.failed + 1) (sym (failed_of old held r new e)) one)
worked_carried before after old held r new (inr (same, e)) =
    let s = same_sum new.failed old.failed (sym (evaluated_of old held r new e)) in
    inr (omega (arith, same, s))

-- ---- a job that was taken is in hand

module _ (old : CoreData) (actor : ℕ) (held : Held) (mid : CoreData) (t : IsTaken old actor held mid) where
  has_it : has_hand (hand_of held) (queue_at mid held.head.tenant).hands ≡ true
  has_it =
      subst (λ (u : ℕ). has_hand (hand_of held) (queue_at mid u).hands ≡ true) (sym t.own)
      (ap (λ (q : QueueHeads). has_hand (hand_of held) q.hands) t.leaves.queue_is.here ∙ in_hand_last (hand_of held) (queue_at old t.tenant).hands)

  taken_in_hand : IsNotHeld mid held → ⊥
  taken_in_hand (inl none) = not_none t.whole.opened (open_at held.head.query (machine_of mid).queries) none t.whole.is_open
  taken_in_hand (inr (w, out)) = false≢true (sym out ∙ has_it)

  follows_worked : (before after : ℕ) (r : Worked) (new : CoreData) → IsWorked before after mid held r new → Follows mid held.head.tenant (hand_of held) new
  follows_worked before after r new (inl (rose, e)) = follows_failed mid held r new taken_in_hand e
  follows_worked before after r new (inr (same, e)) =
      follows_evaluated mid held r new t.whole.opened t.whole.is_open (t.owner ∙ sym t.own) taken_in_hand e

  pub taken_works : (before after : ℕ) (r : Worked) (new : CoreData) → IsIdle old actor → IsWorked before after mid held r new → WorksOn before after old new
  taken_works before after r new idle w =
      let f = subst (λ (u : ℕ). Follows mid u (hand_of held) new) t.own (follows_worked before after r new w) in
      record {
        history = same_history old mid new t.leaves.history f.history;
        hands =
            same_hands old mid new t.tenant (hand_of held) _ f.left _ f.ring (subst (λ (a : ℕ). IsIdle old a) (sym t.actor_is) idle)
            t.leaves.queue_is refl f.queue_is f.fewer;
        failed = let p = same_sum old.failed mid.failed t.leaves.failed in let q = f.failed in omega (arith, p, q);
        carried = carried_by before after old mid new (same_failed old mid t.leaves.failed) (worked_carried before after mid held r new w);
      }

  pub taken_begun : (before after : ℕ) (r : Worked) (new : CoreData) → IsWorked before after mid held r new
      → (query : ℕ) → IsBegun old query → IsBegun new query
  taken_begun before after r new w query b =
      (follows_worked before after r new w).begun query (begun_same old mid query t.leaves.progress_is b)

-- ---- an actor without a job stays so

follows_idle : (mid : CoreData) (u : ℕ) (h : Hand) (new : CoreData) (actor : ℕ) → Follows mid u h new → IsIdle mid actor → IsIdle new actor
follows_idle mid u h new actor f idle =
    idle_with mid new actor u f.left f.ring f.queue_is
    (subst (λ (hs : List Hand). Each (IsNotOf actor) hs) (sym f.fewer) (each_without (IsNotOf actor) h (queue_at mid u).hands (idle u))) idle

same_idle : (mid new : CoreData) (actor : ℕ) → new ≡ mid → IsIdle mid actor → IsIdle new actor
same_idle mid new actor e idle = subst (λ (c : CoreData). IsIdle c actor) (sym e) idle

lacked_idle : (mid : CoreData) (held : Held) (new : CoreData) (actor : ℕ) (o : Option Open) → open_at held.head.query (machine_of mid).queries ≡ o
    → IsLackedBy mid held new → IsIdle mid actor → IsIdle new actor
lacked_idle mid held new actor None there e idle = same_idle mid new actor (e.none there) idle
lacked_idle mid held new actor (Some o) there e idle =
    follows_idle mid o.tenant (hand_of held) new actor (lacked mid held new o Starved (e.some o there)) idle

pub evaluated_idle : (mid : CoreData) (held : Held) (r : Worked) (new : CoreData) → IsEvaluated mid held r new
    → (actor : ℕ) → IsIdle mid actor → IsIdle new actor
evaluated_idle mid held worked.Stored new e actor idle =
    follows_idle mid held.head.tenant (hand_of held) new actor (released mid held new e.1.1) idle
evaluated_idle mid held (worked.Again tries) new e actor idle = absurd e
evaluated_idle mid held (worked.Exhausted job) new e actor idle = absurd e
evaluated_idle mid held worked.Lacked new e actor idle =
    lacked_idle mid held new actor (open_at held.head.query (machine_of mid).queries) refl e idle
evaluated_idle mid held (worked.Gone why) new e actor idle =
    follows_idle mid held.head.tenant (hand_of held) new actor (released mid held new e.1) idle
evaluated_idle mid held worked.NotHeld new e actor idle = same_idle mid new actor e.1 idle

pub failed_idle : (mid : CoreData) (held : Held) (r : Worked) (new : CoreData) → HasFailed mid held r new
    → (actor : ℕ) → IsIdle mid actor → IsIdle new actor
failed_idle mid held worked.Stored new e actor idle = absurd e
failed_idle mid held (worked.Again tries) new e actor idle =
    follows_idle (counted mid held.actor) held.head.tenant (hand_of held) new actor (put_back (counted mid held.actor) held new _ _ refl e.1.1.1.1) idle
failed_idle mid held (worked.Exhausted job) new e actor idle =
    follows_idle (counted mid held.actor) held.head.tenant (hand_of held) new actor (last_failed (counted mid held.actor) held new job e.1.1.1.1) idle
failed_idle mid held worked.Lacked new e actor idle = absurd e
failed_idle mid held (worked.Gone why) new e actor idle =
    follows_idle (counted mid held.actor) held.head.tenant (hand_of held) new actor (gone (counted mid held.actor) held new e.1) idle
failed_idle mid held worked.NotHeld new e actor idle = same_idle (counted mid held.actor) new actor e.1 idle
