-- What the table keeps goes with the open queries, change by change.
use Rattle.std.proofs.Common.{◌≡◌, ℕ, ◌<◌, inl, inr, Bool, false, cond, nat_eq, Option, Some, None, List, [], ◌∷◌, ◌++◌, filter, refl, sym, arith, subst}
use Rattle.std.specs.Prelude.{IfSome}
use Rattle.std.proofs.lemmas.Bool.Decides.{nat_tests}
use Rattle.pf_base.specs.declared.plain.Limits.{Limits}
use Rattle.pf_journal.specs.Machine.{Entry, Open, cancelled_at, closed, open_at}
use Rattle.pf_model.specs.Lists.{Each}
use Rattle.pf_query.specs.Tables.{EntryData, stopped}
use Rattle.pf_query.specs.Works.{WorkData}
use Rattle.pf_query.specs.declared.job.Job.{Job}
use Rattle.pf_query.specs.declared.stop.Stop.TheVariants.{Cancelled}
use Rattle.pf_core.specs.States.{IsEntryOf, IsOutstanding, IsWorkOf, JobStands}
use Rattle.pf_core.proofs.Asked.{opened_grows}
use Rattle.pf_core.proofs.Lists.{each_map}
use Rattle.pf_core.proofs.Machines.{bool_cases, cancelled_as, open_at_cancelled, open_at_cancelled_other, open_at_closed, open_at_closed_same, open_at_pushed, open_at_pushed_other}

-- ---- jobs that wait

pub each_filter : {X : Type 0} (P : X → Type 0) (p : X → Bool) (xs : List X) → Each P xs → Each P (filter p xs)
each_filter P p [] h = tt
each_filter P p (x ∷ xs) h = elim (bool_cases (p x)) [
  | inl t ↦ rw t (h.0, each_filter P p xs h.1)
  | inr t ↦ rw t (each_filter P p xs h.1)
]

pub each_front : {X : Type 0} (P : X → Type 0) (xs ys : List X) → Each P xs → Each P ys → Each P (xs ++ ys)
each_front P [] ys h k = k
each_front P (x ∷ xs) ys h k = (h.0, each_front P xs ys h.1 k)

job_grows : (journal more : List Entry) (l : Limits) (j : Job) → JobStands journal l j → JobStands (journal ++ more) l j
job_grows journal more l j h = record {
  at = h.at;
  asked = opened_grows journal more j.head.query h.at h.asked;
  legs_of = h.legs_of;
  job_of = h.job_of;
}

pub jobs_grow : (journal more : List Entry) (l : Limits) (waiting : ℕ → List Job) → ((u : ℕ) → Each (JobStands journal l) (waiting u))
    → (u : ℕ) → Each (JobStands (journal ++ more) l) (waiting u)
jobs_grow journal more l waiting h u = each_map (JobStands journal l) (JobStands (journal ++ more) l) (job_grows journal more l) (waiting u) (h u)

-- those of one tenant are others
pub jobs_with : (journal : List Entry) (l : Limits) (u : ℕ) (before after : ℕ → List Job) (here : List Job)
    → ((v : ℕ) → Each (JobStands journal l) (before v)) → after u ≡ here → Each (JobStands journal l) here
    → ((v : ℕ) → (v ≡ u → ⊥) → after v ≡ before v) → (v : ℕ) → Each (JobStands journal l) (after v)
jobs_with journal l u before after here h is each others v = elim (bool_cases (nat_eq v u)) [
  | inl t ↦
      let same : v ≡ u = grind (arith, nat_tests, t) in
      subst (λ x. Each (JobStands journal l) (after x)) (sym same) (subst (λ (js : List Job). Each (JobStands journal l) js) (sym is) each)
  | inr t ↦
      let other : v ≡ u → ⊥ = λ e. grind (arith, nat_tests, t, e) in
      subst (λ (js : List Job). Each (JobStands journal l) js) (sym (others v other)) (h v)
]

-- ---- queries

-- the table's entry of an open query
pub record HasEntry (l : Limits) (entry : Option EntryData) (o : Open) : Type 0 where
  pub kept : EntryData
  pub there : entry ≡ Some kept
  pub is : IsEntryOf l o kept

pub entry_there : (l : Limits) (found : Option Open) (entry : Option EntryData) (o : Open) → IsOutstanding l found entry → found ≡ Some o → HasEntry l entry o
entry_there l None None o h e = cc
entry_there l None (Some d) o h e = absurd h
entry_there l (Some p) None o h e = absurd h
entry_there l (Some p) (Some d) o h e =
    let same : p ≡ o = cc in record { kept = d; there = refl; is = subst (λ (x : Open). IsEntryOf l x d) same h }

-- the open query of an entry
pub record HasOpen (l : Limits) (found : Option Open) (d : EntryData) : Type 0 where
  pub opened : Open
  pub there : found ≡ Some opened
  pub is : IsEntryOf l opened d

pub open_there : (l : Limits) (found : Option Open) (entry : Option EntryData) (d : EntryData) → IsOutstanding l found entry → entry ≡ Some d → HasOpen l found d
open_there l None None d h e = cc
open_there l None (Some c) d h e = absurd h
open_there l (Some p) None d h e = absurd h
open_there l (Some p) (Some c) d h e =
    let same : c ≡ d = cc in record { opened = p; there = refl; is = subst (IsEntryOf l p) same h }

pub none_there : (l : Limits) (found : Option Open) (entry : Option EntryData) → IsOutstanding l found entry → found ≡ None → entry ≡ None
none_there l None None h e = refl
none_there l None (Some d) h e = absurd h
none_there l (Some p) entry h e = cc

pub closed_there : (l : Limits) (found : Option Open) (entry : Option EntryData) → IsOutstanding l found entry → entry ≡ None → found ≡ None
closed_there l None None h e = refl
closed_there l None (Some d) h e = absurd h
closed_there l (Some p) None h e = absurd h
closed_there l (Some p) (Some d) h e = cc

-- the entry of one query is another one
outstanding_with : (l : Limits) (query : ℕ) (qs rs : List Open) (before after : ℕ → Option EntryData) (entry : Option EntryData)
    → ((place : ℕ) → IsOutstanding l (open_at place qs) (before place))
    → ((place : ℕ) → after place ≡ cond (nat_eq query place) entry (before place))
    → IsOutstanding l (open_at query rs) entry
    → ((place : ℕ) → nat_eq query place ≡ false → open_at place rs ≡ open_at place qs)
    → (place : ℕ) → IsOutstanding l (open_at place rs) (after place)
outstanding_with l query qs rs before after entry h sets here others place = elim (bool_cases (nat_eq query place)) [
  | inl t ↦
      let same : query ≡ place = grind (arith, nat_tests, t) in
      let is : after place ≡ entry = rw t at (sets place) in
      subst (λ (e : Option EntryData). IsOutstanding l (open_at place rs) e) (sym is)
      (subst (λ p. IsOutstanding l (open_at p rs) entry) same here)
  | inr t ↦
      let is : after place ≡ before place = rw t at (sets place) in
      subst (λ (e : Option EntryData). IsOutstanding l (open_at place rs) e) (sym is)
      (subst (λ (found : Option Open). IsOutstanding l found (before place)) (sym (others place t)) (h place))
]

-- a query is opened
pub outstanding_opened : (l : Limits) (place : ℕ) (qs : List Open) (o : Open) (before after : ℕ → Option EntryData)
    → ((p : ℕ) → IsOutstanding l (open_at p qs) (before p))
    → ((p : ℕ) → after p ≡ cond (nat_eq place p) (Some (record { tenant = o.tenant; stop = None; work = None })) (before p))
    → Each (λ q. q.place < place) qs → o.place ≡ place → o.cancelled ≡ None
    → (p : ℕ) → IsOutstanding l (open_at p (qs ++ o ∷ [])) (after p)
outstanding_opened l place qs o before after h sets below here whole =
    outstanding_with l place qs (qs ++ o ∷ []) before after (Some (record { tenant = o.tenant; stop = None; work = None })) h sets
    (subst (λ (found : Option Open). IsOutstanding l found (Some (record { tenant = o.tenant; stop = None; work = None })))
    (sym (open_at_pushed qs place o below here)) (record { tenant = refl; stop = sym whole; stopped_when = tt; work = tt }))
    (λ p t. open_at_pushed_other qs p o (grind (arith, nat_tests, t, here)))

-- what is kept of a planned query doesn't ask whether it was cancelled
work_as : (l : Limits) (place : ℕ) (o : Open) (work : Option WorkData) → IfSome work (IsWorkOf l o) → IfSome work (IsWorkOf l (cancelled_as place o))
work_as l place o None h = tt
work_as l place o (Some d) h = record {
  legs_are = h.legs_are;
  evaluable = h.evaluable;
  runs = record { others = h.runs.others; woven = h.runs.woven; each = h.runs.each; alone = h.runs.alone };
  divided = λ g. record { woven = (h.divided g).woven; each = (h.divided g).each; values = (h.divided g).values; alone = (h.divided g).alone };
  few = h.few;
  reused = record { at_once = h.reused.at_once; frozen = h.reused.frozen };
  once = h.once;
  fits = h.fits;
  values = h.values;
}

-- it is cancelled
pub outstanding_cancelled : (l : Limits) (query place : ℕ) (qs : List Open) (o : Open) (d : EntryData) (before after : ℕ → Option EntryData)
    → ((p : ℕ) → IsOutstanding l (open_at p qs) (before p)) → open_at query qs ≡ Some o → IsEntryOf l o d
    → ((p : ℕ) → after p ≡ cond (nat_eq query p) (Some (stopped (Cancelled place) d)) (before p))
    → (p : ℕ) → IsOutstanding l (open_at p (cancelled_at place query qs)) (after p)
outstanding_cancelled l query place qs o d before after h found is sets =
    outstanding_with l query qs (cancelled_at place query qs) before after (Some (stopped (Cancelled place) d)) h sets
    (subst (λ (found : Option Open). IsOutstanding l found (Some (stopped (Cancelled place) d))) (sym (open_at_cancelled place query qs o found))
    (record { tenant = is.tenant; stop = refl; stopped_when = tt; work = work_as l place o d.work is.work }))
    (λ p t. open_at_cancelled_other place query p qs t)

-- it is answered
pub outstanding_answered : (l : Limits) (query : ℕ) (qs : List Open) (before after : ℕ → Option EntryData)
    → ((p : ℕ) → IsOutstanding l (open_at p qs) (before p))
    → ((p : ℕ) → after p ≡ cond (nat_eq query p) None (before p))
    → (p : ℕ) → IsOutstanding l (open_at p (closed query qs)) (after p)
outstanding_answered l query qs before after h sets =
    outstanding_with l query qs (closed query qs) before after None h sets
    (subst (λ (found : Option Open). IsOutstanding l found None) (sym (open_at_closed_same query qs)) tt)
    (λ p t. open_at_closed query p qs (λ e. grind (arith, nat_tests, t, e)))

-- its entry alone is another one
pub outstanding_set : (l : Limits) (query : ℕ) (qs : List Open) (o : Open) (d : EntryData) (before after : ℕ → Option EntryData)
    → ((p : ℕ) → IsOutstanding l (open_at p qs) (before p)) → open_at query qs ≡ Some o → IsEntryOf l o d
    → ((p : ℕ) → after p ≡ cond (nat_eq query p) (Some d) (before p))
    → (p : ℕ) → IsOutstanding l (open_at p qs) (after p)
outstanding_set l query qs o d before after h found is sets =
    outstanding_with l query qs qs before after (Some d) h sets
    (subst (λ (found : Option Open). IsOutstanding l found (Some d)) (sym found) is) (λ p t. refl)

-- all entries are as they were
pub outstanding_same : (l : Limits) (qs : List Open) (before after : ℕ → Option EntryData)
    → ((p : ℕ) → IsOutstanding l (open_at p qs) (before p)) → ((p : ℕ) → after p ≡ before p) → (p : ℕ) → IsOutstanding l (open_at p qs) (after p)
outstanding_same l qs before after h same p = subst (λ (e : Option EntryData). IsOutstanding l (open_at p qs) e) (sym (same p)) (h p)
