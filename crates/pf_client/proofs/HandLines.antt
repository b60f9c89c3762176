-- Jobs in hand and failed tries, line by line.
use Rattle.std.proofs.Common.{◌≡◌, ℕ, ◌+◌, ◌-◌, ◌≤◌, ◌⊎◌, inl, inr, true, false, nat_eq, Option, Some, None, List, [], ◌∷◌, ◌++◌, filter, option_map, sum, refl, sym, ap, ◌∙◌, subst, append-nil, arith}
use Rattle.std.proofs.lemmas.Bool.Decides.{nat_tests}
use Rattle.std.proofs.lemmas.List.Elements.{filter-append}
use Rattle.pf_core.specs.Cores.{CoreData, in_hand_of, machine_of, queue_at}
use Rattle.pf_journal.specs.Legal.{machine_after}
use Rattle.pf_journal.specs.Machine.{Entry, Machine, Open, What, append, delete, ask, full, no_tenant, cancel, answer, cancelled_at, closed, log_of, open_at, queries_after, started}
use Rattle.pf_journal.specs.Rest.{Told, nothing, refused_file, no_memory, journal_full, waiting, failed_five, of_plan, of_take, of_done, of_keep}
use Rattle.pf_journal.specs.Scripts as script
use Rattle.pf_journal.specs.Scripts.{Line}
use Rattle.pf_journal.specs.Steps.{took, none_waits, busy, stored, again, exhausted, lacked, gone, not_held, empty}
use Rattle.pf_journal.specs.Turns as turns
use Rattle.pf_journal.specs.Turns.{hands_after, hands_on, hands_without, holds}
use Rattle.pf_journal.specs.Unentered.{HasQuery}
use Rattle.pf_journal.specs.Weave.{failed_in, failed_told}
use Rattle.pf_model.specs.Lists.{first_with}
use Rattle.pf_query.specs.Jobs.{hand_of, without_hand}
use Rattle.pf_query.specs.Tables.{hands_with}
use Rattle.pf_query.specs.declared.job.Hand.{Hand}
use Rattle.pf_query.specs.declared.job.Held.{Held}
use Rattle.pf_client.proofs.Cases.{bool_cases}
use Rattle.pf_client.proofs.Hands.{filter_without, hands_on_onto, hands_with_filter, holds_found, holds_none, order_dropped, order_same, order_taken, others_onto, told-snoc, told_taken, without_is}
use Rattle.pf_client.proofs.Onward.{machine-snoc}
use Rattle.pf_client.specs.Clients.{entries_by, entry_by}
use Rattle.pf_client.specs.Going.{AreCounted}
use Rattle.pf_client.specs.Hands.{AreInOrder, CountsTries, DropsJob, HandsAfter, HaveHands, IsLive, KeepsHands, TakesJob, held_by, is_by, is_by_other, is_job_of, jobs_in_hand, told_onto}
use Rattle.pf_client.specs.declared.client.Client.{Client}

-- ---- queries that were open before

pushed_was : (q : ℕ) (qs : List Open) (p o : Open) → open_at q (qs ++ p ∷ []) ≡ Some o → (open_at q qs ≡ Some o) ⊎ (p.place ≡ q)
pushed_was q [] p o h = elim (bool_cases (nat_eq p.place q)) [
  | inl t ↦ inr (grind (arith, nat_tests, t))
  | inr t ↦ let g = rw t at h in cc
]
pushed_was q (x ∷ qs) p o h = elim (bool_cases (nat_eq x.place q)) [
  | inl t ↦ let g : Some x ≡ Some o = rw t at h in inl (rw t g)
  | inr t ↦ let g : open_at q (qs ++ p ∷ []) ≡ Some o = rw t at h in rw t (pushed_was q qs p o g)
]

-- of the same tenant
abbrev pub WasOpen : ℕ → List Open → Open → Type 0
WasOpen q qs o = (p : Open) × ((open_at q qs ≡ Some p) × (p.tenant ≡ o.tenant))

cancelled_was : (place query q : ℕ) (qs : List Open) (o : Open) → open_at q (cancelled_at place query qs) ≡ Some o → WasOpen q qs o
cancelled_was place query q [] o h = cc
cancelled_was place query q (x ∷ qs) o h = elim (bool_cases (nat_eq x.place query)) [
  | inl t ↦
      let f : open_at q (record { place = x.place; tenant = x.tenant; asked = x.asked; log = x.log; cancelled = Some place } ∷ qs) ≡ Some o = rw t at h in
      elim (bool_cases (nat_eq x.place q)) [
        | inl u ↦
            let g : Some (record { place = x.place; tenant = x.tenant; asked = x.asked; log = x.log; cancelled = Some place }) ≡ Some o = rw u at f in
            let e : record { place = x.place; tenant = x.tenant; asked = x.asked; log = x.log; cancelled = Some place } ≡ o = cc in
            (x, (rw u refl, ap (λ (y : Open). y.tenant) e))
        | inr u ↦ let g : open_at q qs ≡ Some o = rw u at f in (o, (rw u g, refl))
      ]
  | inr t ↦
      let f : open_at q (x ∷ cancelled_at place query qs) ≡ Some o = rw t at h in
      elim (bool_cases (nat_eq x.place q)) [
        | inl u ↦ let g : Some x ≡ Some o = rw u at f in (o, (rw u g, refl))
        | inr u ↦
            let g : open_at q (cancelled_at place query qs) ≡ Some o = rw u at f in
            let w = cancelled_was place query q qs o g in
            (w.0, (rw u w.1.0, w.1.1))
      ]
]

-- what is open once a query was closed was open before, and is another one
closed_was : (query q : ℕ) (qs : List Open) (o : Open) → open_at q (closed query qs) ≡ Some o → (open_at q qs ≡ Some o) × (nat_eq query q ≡ false)
closed_was query q [] o h = cc
closed_was query q (x ∷ qs) o h = elim (bool_cases (nat_eq x.place query)) [
  | inl t ↦
      let f : open_at q (closed query qs) ≡ Some o = rw t at h in
      let w = closed_was query q qs o f in
      let n = w.1 in
      let u : nat_eq x.place q ≡ false = grind (arith, nat_tests, t, n) in
      (rw u w.0, n)
  | inr t ↦
      let f : open_at q (x ∷ closed query qs) ≡ Some o = rw t at h in
      elim (bool_cases (nat_eq x.place q)) [
        | inl u ↦
            let g : Some x ≡ Some o = rw u at f in
            let n : nat_eq query q ≡ false = grind (arith, nat_tests, t, u) in
            (rw u g, n)
        | inr u ↦
            let g : open_at q (closed query qs) ≡ Some o = rw u at f in
            let w = closed_was query q qs o g in
            (rw u w.0, w.1)
      ]
]

-- an entry opens at most the query that it asks
pub was_open : (m : Machine) (w : What) (q : ℕ) (o : Open) → open_at q (queries_after m w) ≡ Some o → WasOpen q m.queries o ⊎ (HasQuery (Some w) × (q ≡ m.count))
was_open m (append u batch vs entry) q o h = inl (o, (h, refl))
was_open m (delete u ms from to generation entry) q o h = inl (o, (h, refl))
was_open m (ask u asked pin generation floor) q o h =
    by (pushed_was q m.queries (record { place = m.count; tenant = u; asked = asked; log = log_of m.logs u; cancelled = None }) o h) where
      by : (open_at q m.queries ≡ Some o) ⊎ (m.count ≡ q) → WasOpen q m.queries o ⊎ (HasQuery (Some (ask u asked pin generation floor)) × (q ≡ m.count))
      by (inl g) = inl (o, (g, refl))
      by (inr e) = inr (tt, sym e)
was_open m (full u outstanding) q o h = inl (o, (h, refl))
was_open m (no_tenant name) q o h = inl (o, (h, refl))
was_open m (cancel query) q o h = inl (cancelled_was m.count query q m.queries o h)
was_open m (answer query code cached evaluated) q o h = inl (o, ((closed_was query q m.queries o h).0, refl))

-- an answer closes its query
pub closes_it : (m : Machine) (query code cached evaluated q : ℕ) (o : Open) → open_at q (queries_after m (answer query code cached evaluated)) ≡ Some o → nat_eq query q ≡ false
closes_it m query code cached evaluated q o h = (closed_was query q m.queries o h).1

-- the same of a core's journal
pub open_before : (old new : CoreData) (client n : ℕ) (entered : Option What) → new.journal ≡ old.journal ++ entries_by client n entered → (q : ℕ) (o : Open)
    → open_at q (machine_of new).queries ≡ Some o → WasOpen q (machine_of old).queries o ⊎ (HasQuery entered × (q ≡ (machine_of old).count))
open_before old new client n None journal q o h =
    inl (o, (subst (λ (es : List Entry). open_at q (machine_after started es).queries ≡ Some o) (journal ∙ append-nil old.journal) h, refl))
open_before old new client n (Some what) journal q o h =
    was_open (machine_of old) what q o
    (subst (λ (m : Machine). open_at q m.queries ≡ Some o) (machine-snoc started old.journal (entry_by client n what))
    (subst (λ (es : List Entry). open_at q (machine_after started es).queries ≡ Some o) journal h))

pub count_before : (old new : CoreData) (client n : ℕ) (entered : Option What) → new.journal ≡ old.journal ++ entries_by client n entered → (machine_of old).count ≤ (machine_of new).count
count_before old new client n None journal =
    let e = ap (λ (es : List Entry). (machine_after started es).count) (journal ∙ append-nil old.journal) in omega (arith, e)
count_before old new client n (Some what) journal =
    let e = ap (λ (es : List Entry). (machine_after started es).count) journal in
    let d = ap (λ (m : Machine). m.count) (machine-snoc started old.journal (entry_by client n what)) in
    omega (arith, e, d)

-- a query that is not answered was not before
pub live_before : (old new : CoreData) (client n : ℕ) (entered : Option What) → new.journal ≡ old.journal ++ entries_by client n entered → (u q : ℕ) → IsLive new u q → IsLive old u q
live_before old new client n entered journal u q (inl a) = by (open_before old new client n entered journal q a.0 a.1.0) where
  by : WasOpen q (machine_of old).queries a.0 ⊎ (HasQuery entered × (q ≡ (machine_of old).count)) → IsLive old u q
  by (inl w) = inl (w.0, (w.1.0, w.1.1 ∙ a.1.1))
  by (inr e) = let here = e.1 in inr (omega (arith, here))
live_before old new client n entered journal u q (inr late) = let more = count_before old new client n entered journal in inr (omega (arith, more, late))

-- ---- jobs in hand

hands_kept : (old new : Client) (hs : List turns.Hand) → ((u q : ℕ) → IsLive new.core u q → IsLive old.core u q) → KeepsHands old new → HaveHands old hs → HaveHands new hs
hands_kept old new hs live k h = record {
  order = h.order;
  in_order = order_same old.hands.items new.hands.items h.order k.held h.in_order;
  told_is = h.told_is;
  in_hand = λ u q a. k.jobs u q a ∙ h.in_hand u q (live u q a);
}

none_found : (held : List (Option Held)) (order : List Hand) (w : ℕ) → AreInOrder held order → held_by held w ≡ None → first_with (is_by w) order ≡ None
none_found held order w h e = h.found w ∙ ap (option_map hand_of) e

hands_taken : (old new : Client) (w query : ℕ) (hs : List turns.Hand) → ((u q : ℕ) → IsLive new.core u q → IsLive old.core u q) → TakesJob w query old new → HaveHands old hs
    → HaveHands new (record { worker = w; query = query } ∷ hands_without w hs)
hands_taken old new w query hs live t h =
    let none = none_found old.hands.items h.order w h.in_order t.vacant in
    let a = t.actor in
    let worker_is : t.job.actor - 16 ≡ w = omega (arith, a) in
    record {
      order = h.order ++ hand_of t.job ∷ [];
      in_order = order_taken old.hands.items new.hands.items h.order w t.job h.in_order t.vacant t.actor t.held;
      told_is =
          ap (λ (xs : List turns.Hand). record { worker = w; query = query } ∷ hands_without w xs) h.told_is
          ∙ ap (λ (xs : List turns.Hand). record { worker = w; query = query } ∷ xs) (told_taken w h.order h.in_order.workers none)
          ∙ ap (λ (i : ℕ). record { worker = i; query = query } ∷ told_onto [] h.order) (sym worker_is)
          ∙ ap (λ (i : ℕ). record { worker = t.job.actor - 16; query = i } ∷ told_onto [] h.order) (sym t.of_query)
          ∙ sym (told-snoc [] h.order (hand_of t.job));
      in_hand = λ u q x.
          t.jobs u q x ∙ ap (λ (xs : List Hand). xs ++ filter (is_job_of q) (hand_of t.job ∷ [])) (h.in_hand u q (live u q x))
          ∙ sym (filter-append (is_job_of q) h.order (hand_of t.job ∷ []));
    }

hands_dropped : (old new : Client) (w : ℕ) (hs : List turns.Hand) → ((u q : ℕ) → IsLive new.core u q → IsLive old.core u q) → DropsJob w old new → HaveHands old hs
    → HaveHands new (hands_without w hs)
hands_dropped old new w hs live d h =
    let found = h.in_order.found w ∙ ap (option_map hand_of) d.there in
    record {
      order = filter (is_by_other w) h.order;
      in_order = order_dropped old.hands.items new.hands.items h.order w h.in_order d.held;
      told_is = ap (hands_without w) h.told_is ∙ others_onto w [] h.order h.in_order.workers;
      in_hand = λ u q x.
          d.jobs u q x ∙ ap (without_hand (hand_of d.job)) (h.in_hand u q (live u q x)) ∙ sym (filter_without q (hand_of d.job) h.order)
          ∙ ap (filter (is_job_of q)) (without_is w h.order (hand_of d.job) h.in_order.apart found);
    }

hands_empty : (old new : Client) (w : ℕ) (hs : List turns.Hand) → ((u q : ℕ) → IsLive new.core u q → IsLive old.core u q) → held_by old.hands.items w ≡ None → KeepsHands old new
    → HaveHands old hs → HaveHands new (hands_without w hs)
hands_empty old new w hs live vacant k h =
    let kept = hands_kept old new hs live k h in
    subst (HaveHands new)
    (sym (ap (hands_without w) h.told_is ∙ told_taken w h.order h.in_order.workers (none_found old.hands.items h.order w h.in_order vacant) ∙ sym h.told_is)) kept

-- the jobs in hand behind a line
pub hands_next : (l : Line) (told : Told) (old new : Client) (hs : List turns.Hand) → ((u q : ℕ) → IsLive new.core u q → IsLive old.core u q) → HandsAfter l told old new → HaveHands old hs
    → HaveHands new (hands_after l told hs)
hands_next (script.ingest tenant file time) told old new hs live k h = hands_kept old new hs live k h
hands_next (script.delete tenant from to selector) told old new hs live k h = hands_kept old new hs live k h
hands_next (script.ask id tenant start end step query) told old new hs live k h = hands_kept old new hs live k h
hands_next (script.instant id tenant time query) told old new hs live k h = hands_kept old new hs live k h
hands_next (script.cancel id asked tenant) told old new hs live k h = hands_kept old new hs live k h
hands_next (script.answer id asked) told old new hs live k h = hands_kept old new hs live k h
hands_next (script.plan id asked) told old new hs live k h = hands_kept old new hs live k h
hands_next (script.keep id asked) told old new hs live k h = hands_kept old new hs live k h
hands_next (script.take w) (of_take (took query job leg first last)) old new hs live k h = hands_taken old new w query hs live k h
hands_next (script.take w) (of_take none_waits) old new hs live k h = hands_kept old new hs live k h
hands_next (script.take w) (of_take busy) old new hs live k h = hands_kept old new hs live k h
hands_next (script.take w) nothing old new hs live k h = hands_kept old new hs live k h
hands_next (script.take w) (refused_file r) old new hs live k h = hands_kept old new hs live k h
hands_next (script.take w) no_memory old new hs live k h = hands_kept old new hs live k h
hands_next (script.take w) journal_full old new hs live k h = hands_kept old new hs live k h
hands_next (script.take w) (waiting jobs) old new hs live k h = hands_kept old new hs live k h
hands_next (script.take w) (failed_five job) old new hs live k h = hands_kept old new hs live k h
hands_next (script.take w) (of_plan p) old new hs live k h = hands_kept old new hs live k h
hands_next (script.take w) (of_done d) old new hs live k h = hands_kept old new hs live k h
hands_next (script.take w) (of_keep d) old new hs live k h = hands_kept old new hs live k h
hands_next (script.done w) (of_done empty) old new hs live k h = hands_empty old new w hs live k.0 k.1 h
hands_next (script.done w) (of_done stored) old new hs live k h = hands_dropped old new w hs live k h
hands_next (script.done w) (of_done (again tries)) old new hs live k h = hands_dropped old new w hs live k h
hands_next (script.done w) (of_done (exhausted job)) old new hs live k h = hands_dropped old new w hs live k h
hands_next (script.done w) (of_done lacked) old new hs live k h = hands_dropped old new w hs live k h
hands_next (script.done w) (of_done (gone why)) old new hs live k h = hands_dropped old new w hs live k h
hands_next (script.done w) (of_done not_held) old new hs live k h = hands_dropped old new w hs live k h
hands_next (script.done w) nothing old new hs live k h = hands_dropped old new w hs live k h
hands_next (script.done w) (refused_file r) old new hs live k h = hands_dropped old new w hs live k h
hands_next (script.done w) no_memory old new hs live k h = hands_dropped old new w hs live k h
hands_next (script.done w) journal_full old new hs live k h = hands_dropped old new w hs live k h
hands_next (script.done w) (waiting jobs) old new hs live k h = hands_dropped old new w hs live k h
hands_next (script.done w) (failed_five job) old new hs live k h = hands_dropped old new w hs live k h
hands_next (script.done w) (of_plan p) old new hs live k h = hands_dropped old new w hs live k h
hands_next (script.done w) (of_take t) old new hs live k h = hands_dropped old new w hs live k h
hands_next (script.done w) (of_keep d) old new hs live k h = hands_dropped old new w hs live k h

-- ---- what is told of hands

-- a worker is told to have a job where it has one
pub holds_job : (c : Client) (hs : List turns.Hand) (w : ℕ) (j : Held) → HaveHands c hs → held_by c.hands.items w ≡ Some j → holds w hs ≡ true
holds_job c hs w j h e =
    ap (holds w) h.told_is ∙ holds_found w [] h.order (hand_of j) h.in_order.workers (h.in_order.found w ∙ ap (option_map hand_of) e)

pub holds_nothing : (c : Client) (hs : List turns.Hand) (w : ℕ) → HaveHands c hs → held_by c.hands.items w ≡ None → holds w hs ≡ false
holds_nothing c hs w h e =
    ap (holds w) h.told_is ∙ holds_none w [] h.order h.in_order.workers (none_found c.hands.items h.order w h.in_order e) refl

-- as many jobs of an open query are told to be in hand as the core has
pub counted_in_hand : (c : Client) (hs : List turns.Hand) (u q : ℕ) → HaveHands c hs → IsLive c.core u q → hands_on q hs ≡ in_hand_of c.core u q
counted_in_hand c hs u q h live =
    let n = hands_on_onto q [] h.order in
    ap (hands_on q) h.told_is ∙ n ∙ plus_none (hands_with q h.order) ∙ sym (hands_with_filter q h.order) ∙ sym (ap (hands_with q) (h.in_hand u q live))
    ∙ hands_with_filter q (queue_at c.core u).hands where
      plus_none : (n : ℕ) → 0 + n ≡ n
      plus_none n = omega arith

-- ---- failed tries

failed-snoc : (ts : List Told) (t : Told) → failed_told (ts ++ t ∷ []) ≡ failed_told ts + failed_in t
failed-snoc [] t = omega arith
failed-snoc (x ∷ ts) t = let more = failed-snoc ts t in omega (arith, more)

pub tried_next : (old new : CoreData) (told : List Told) (t : Told) → CountsTries old t new → AreCounted old told → AreCounted new (told ++ t ∷ [])
tried_next old new told t (inl most) h = inl most
tried_next old new told t (inr more) (inl most) = inl (omega (arith, more, most))
tried_next old new told t (inr more) (inr h) = let e = failed-snoc told t in inr (omega (arith, more, h, e))

-- a core whose tries are the same
pub tries_same : (old new : CoreData) (t : Told) → new.failed ≡ old.failed → failed_in t ≡ 0 → CountsTries old t new
tries_same old new t e none = let s = ap (λ (fs : List ℕ). sum fs) e in inr (omega (arith, s, none))

pub tries_on : (old new : CoreData) (t : Told) → sum old.failed ≤ sum new.failed → failed_in t ≡ 0 → CountsTries old t new
tries_on old new t more none = inr (omega (arith, more, none))

-- the same client's jobs
pub keeps_same : (old new : Client) → new.hands.items ≡ old.hands.items → new.core ≡ old.core → KeepsHands old new
keeps_same old new held same = record { held = held; jobs = λ u q a. ap (λ (c : CoreData). jobs_in_hand c u q) same }

pub keeps_hands : (old new : Client) → new.hands.items ≡ old.hands.items → ((u : ℕ) → (queue_at new.core u).hands ≡ (queue_at old.core u).hands) → KeepsHands old new
keeps_hands old new held hands = record { held = held; jobs = λ u q a. ap (filter (is_job_of q)) (hands u) }
