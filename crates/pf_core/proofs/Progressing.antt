-- How far the work on open queries is goes with them, change by change.
use Rattle.std.proofs.Common.{◌≡◌, ℕ, ◌+◌, ◌<◌, ◌≤◌, inl, inr, true, false, cond, nat_eq, Option, Some, None, List, [], ◌∷◌, ◌++◌, refl, sym, ap, ◌∙◌, arith, subst}
use Rattle.std.specs.Prelude.{IfSome, sum_by}
use Rattle.std.proofs.lemmas.Bool.Decides.{nat_tests}
use Rattle.std.proofs.lemmas.List.Sums.{sum_by-cons, sum_by_push}
use Rattle.pf_base.specs.declared.plain.Limits.{Limits}
use Rattle.pf_journal.specs.Machine.{Open, cancelled_at, closed, open_at}
use Rattle.pf_model.specs.Lists.{Each}
use Rattle.pf_query.specs.Entries.{is_planned}
use Rattle.pf_query.specs.Tables.{EntryData}
use Rattle.pf_query.specs.Works.{WorkData}
use Rattle.pf_core.specs.Progress.{GoesWith, GoesWithPlan, IsProgressOf, QueryProgress, begun, progress_at, tried_in, with_progress, without_progress}
use Rattle.pf_core.specs.States.{Above, IsOutstanding, IsWorkOf, far_of, progress_of}
use Rattle.pf_core.proofs.Machines.{bool_cases}

-- ---- by place

pub far_query : (q : ℕ) (e : Option EntryData) (n : ℕ) → (far_of q e n).query ≡ q
far_query q None n = refl
far_query q (Some e) n = refl

-- how far an open query is stands there
pub far_at : (query : ℕ) (qs : List Open) (entries : ℕ → Option EntryData) (tries : ℕ → ℕ) (o : Open) → open_at query qs ≡ Some o
    → progress_at query (progress_of qs entries tries) ≡ Some (far_of query (entries query) (tries query))
far_at query [] entries tries o h = cc
far_at query (p ∷ ps) entries tries o h = elim (bool_cases (nat_eq p.place query)) [
  | inl t ↦
      let same : p.place ≡ query = grind (arith, nat_tests, t) in
      let own : nat_eq (far_of p.place (entries p.place) (tries p.place)).query query ≡ true = ap (λ x. nat_eq x query) (far_query p.place (entries p.place) (tries p.place)) ∙ t in
      rw own (ap (λ x. Some (far_of x (entries x) (tries x))) same)
  | inr t ↦
      let there : open_at query ps ≡ Some o = rw t at h in
      let other : nat_eq (far_of p.place (entries p.place) (tries p.place)).query query ≡ false = ap (λ x. nat_eq x query) (far_query p.place (entries p.place) (tries p.place)) ∙ t in
      rw other (far_at query ps entries tries o there)
]

-- ---- with the open queries

-- each open query is the one at its place
each_later : (place : ℕ) (o : Open) (least : ℕ) (qs rs : List Open) → o.place ≡ place → place < least → Above least rs
    → Each (λ q. open_at q.place qs ≡ Some q) rs → Each (λ q. open_at q.place (o ∷ qs) ≡ Some q) rs
each_later place o least qs [] e p h k = tt
each_later place o least qs (r ∷ rs) e p h k =
    let low = h.0 in
    let other : nat_eq o.place r.place ≡ false = grind (arith, nat_tests, e, p, low) in
    (rw other k.0, each_later place o (r.place + 1) qs rs e (omega (arith, p, low)) h.1 k.1)

pub each_open : (least : ℕ) (qs : List Open) → Above least qs → Each (λ q. open_at q.place qs ≡ Some q) qs
each_open least [] h = tt
each_open least (o ∷ os) h =
    let own : nat_eq o.place o.place ≡ true = grind (arith, nat_tests) in
    (rw own refl, each_later o.place o (o.place + 1) os os refl (omega arith) h.1 (each_open (o.place + 1) os h.1))

progress_by : (l : Limits) (o : Open) (e : Option EntryData) (n : ℕ) → IsOutstanding l (Some o) e → IsProgressOf l o (far_of o.place e n)
progress_by l o None n h = absurd h
progress_by l o (Some d) n h = by d.work h.work h.stopped_when where
  by : (w : Option WorkData) → IfSome w (IsWorkOf l o) → GoesWithPlan d.stop (is_planned w) → IsProgressOf l o (far_of o.place (Some (record d { work = w })) n)
  by None k g = record { place = refl; stop = h.stop; stopped_when = g; few = omega arith; reused = record { at_once = λ _. refl; frozen = omega arith }; none = λ p. refl; runs = λ p. cc; alone = λ p once. cc }
  by (Some w) k g = record { place = refl; stop = h.stop; stopped_when = g; few = k.few; reused = k.reused; none = λ p. cc; runs = λ p. k.runs; alone = λ p once. k.once once }

goes_by : (l : Limits) (qs : List Open) (entries : ℕ → Option EntryData) (tries : ℕ → ℕ) → Each (λ o. IsOutstanding l (Some o) (entries o.place)) qs
    → GoesWith l qs (progress_of qs entries tries)
goes_by l [] entries tries h = tt
goes_by l (o ∷ os) entries tries h = (progress_by l o (entries o.place) (tries o.place) h.0, goes_by l os entries tries h.1)

each_outstanding : (l : Limits) (qs rs : List Open) (entries : ℕ → Option EntryData) → ((p : ℕ) → IsOutstanding l (open_at p qs) (entries p))
    → Each (λ q. open_at q.place qs ≡ Some q) rs → Each (λ o. IsOutstanding l (Some o) (entries o.place)) rs
each_outstanding l qs [] entries h k = tt
each_outstanding l qs (r ∷ rs) entries h k =
    (subst (λ (x : Option Open). IsOutstanding l x (entries r.place)) k.0 (h r.place), each_outstanding l qs rs entries h k.1)

pub goes_with : (l : Limits) (qs : List Open) (entries : ℕ → Option EntryData) (tries : ℕ → ℕ) → Above 0 qs → ((p : ℕ) → IsOutstanding l (open_at p qs) (entries p))
    → GoesWith l qs (progress_of qs entries tries)
goes_with l qs entries tries above h = goes_by l qs entries tries (each_outstanding l qs qs entries h (each_open 0 qs above))

-- ---- what changes

-- of none
pub far_same : (qs : List Open) (before after : ℕ → Option EntryData) (old new : ℕ → ℕ)
    → ((p : ℕ) → far_of p (after p) (new p) ≡ far_of p (before p) (old p)) → progress_of qs after new ≡ progress_of qs before old
far_same [] before after old new h = refl
far_same (o ∷ os) before after old new h = λ i. h o.place i ∷ far_same os before after old new h i

-- of one
pub far_changed : (query : ℕ) (change : QueryProgress → QueryProgress) (qs : List Open) (before after : ℕ → Option EntryData) (old new : ℕ → ℕ)
    → ((p : ℕ) → far_of p (after p) (new p) ≡ cond (nat_eq p query) (change (far_of p (before p) (old p))) (far_of p (before p) (old p)))
    → progress_of qs after new ≡ with_progress query change (progress_of qs before old)
far_changed query change [] before after old new h = refl
far_changed query change (o ∷ os) before after old new h =
    let was : QueryProgress = far_of o.place (before o.place) (old o.place) in
    let here : far_of o.place (after o.place) (new o.place) ≡ cond (nat_eq was.query query) (change was) was =
    h o.place ∙ ap (λ x. cond (nat_eq x query) (change was) was) (sym (far_query o.place (before o.place) (old o.place))) in
    λ i. here i ∷ far_changed query change os before after old new h i

-- where the table's entry of one is another one
pub far_set : (query : ℕ) (change : QueryProgress → QueryProgress) (qs : List Open) (before after : ℕ → Option EntryData) (old new : ℕ → ℕ) (was now : Option EntryData)
    → before query ≡ was → ((q : ℕ) → after q ≡ cond (nat_eq query q) now (before q)) → ((q : ℕ) → (q ≡ query → ⊥) → new q ≡ old q)
    → far_of query now (new query) ≡ change (far_of query was (old query))
    → progress_of qs after new ≡ with_progress query change (progress_of qs before old)
far_set query change qs before after old new was now there sets same e = far_changed query change qs before after old new by where
  by : (p : ℕ) → far_of p (after p) (new p) ≡ cond (nat_eq p query) (change (far_of p (before p) (old p))) (far_of p (before p) (old p))
  by p = elim (bool_cases (nat_eq p query)) [
    | inl t ↦
        let one : query ≡ p = grind (arith, nat_tests, t) in
        let own : nat_eq query p ≡ true = grind (arith, nat_tests, t) in
        let is : after p ≡ now = rw own at (sets p) in
        let here : far_of query (after p) (new query) ≡ change (far_of query (before query) (old query)) =
        ap (λ (x : Option EntryData). far_of query x (new query)) is ∙ e ∙ ap (λ (x : Option EntryData). change (far_of query x (old query))) (sym there) in
        rw t (subst (λ x. far_of x (after p) (new x) ≡ change (far_of x (before x) (old x))) one here)
    | inr t ↦
        let other : nat_eq query p ≡ false = grind (arith, nat_tests, t) in
        let apart : p ≡ query → ⊥ = λ e. grind (arith, nat_tests, t, e) in
        let is : after p ≡ before p = rw other at (sets p) in
        let tries = same p apart in
        rw t (λ i. far_of p (is i) (tries i))
  ]

-- and goes as far
pub far_kept : (query : ℕ) (qs : List Open) (before after : ℕ → Option EntryData) (old new : ℕ → ℕ) (was now : Option EntryData)
    → before query ≡ was → ((q : ℕ) → after q ≡ cond (nat_eq query q) now (before q)) → ((q : ℕ) → new q ≡ old q)
    → ((n : ℕ) → far_of query now n ≡ far_of query was n)
    → progress_of qs after new ≡ progress_of qs before old
far_kept query qs before after old new was now there sets same e = far_same qs before after old new by where
  by : (p : ℕ) → far_of p (after p) (new p) ≡ far_of p (before p) (old p)
  by p = elim (bool_cases (nat_eq query p)) [
    | inl t ↦
        let one : query ≡ p = grind (arith, nat_tests, t) in
        let is : after p ≡ now = rw t at (sets p) in
        subst (λ x. far_of x (after p) (new x) ≡ far_of x (before x) (old x)) one
        (ap (λ (x : Option EntryData). far_of query x (new query)) is ∙ e (new query)
        ∙ (λ i. far_of query (sym there i) (same query i)))
    | inr t ↦
        let is : after p ≡ before p = rw t at (sets p) in
        let tries = same p in λ i. far_of p (is i) (tries i)
  ]

-- a query is opened
pub far_opened : (place : ℕ) (qs : List Open) (o : Open) (before after : ℕ → Option EntryData) (old new : ℕ → ℕ) (fresh : EntryData)
    → ((q : ℕ) → after q ≡ cond (nat_eq place q) (Some fresh) (before q)) → ((q : ℕ) → new q ≡ old q)
    → Each (λ q. q.place < place) qs → o.place ≡ place → far_of place (Some fresh) (new place) ≡ begun place
    → progress_of (qs ++ o ∷ []) after new ≡ progress_of qs before old ++ begun place ∷ []
far_opened place [] o before after old new fresh sets same below here e =
    let own : nat_eq place place ≡ true = grind (arith, nat_tests) in
    let is : after place ≡ Some fresh = rw own at (sets place) in
    ap (λ (x : QueryProgress). x ∷ [])
    (ap (λ x. far_of x (after x) (new x)) here ∙ ap (λ (x : Option EntryData). far_of place x (new place)) is ∙ e)
far_opened place (q ∷ qs) o before after old new fresh sets same below here e =
    let low = below.0 in
    let other : nat_eq place q.place ≡ false = grind (arith, nat_tests, low) in
    let is : after q.place ≡ before q.place = rw other at (sets q.place) in
    λ i. far_of q.place (is i) (same q.place i) ∷ far_opened place qs o before after old new fresh sets same below.1 here e i

-- a query is cancelled
pub far_cancelled : (place query : ℕ) (qs : List Open) (entries : ℕ → Option EntryData) (tries : ℕ → ℕ)
    → progress_of (cancelled_at place query qs) entries tries ≡ progress_of qs entries tries
far_cancelled place query [] entries tries = refl
far_cancelled place query (o ∷ os) entries tries = elim (bool_cases (nat_eq o.place query)) [
  | inl t ↦ rw t refl
  | inr t ↦
      rw t (ap (λ (xs : List QueryProgress). far_of o.place (entries o.place) (tries o.place) ∷ xs) (far_cancelled place query os entries tries))
]

-- a query is answered
pub far_closed : (query : ℕ) (qs : List Open) (before after : ℕ → Option EntryData) (old new : ℕ → ℕ)
    → ((q : ℕ) → after q ≡ cond (nat_eq query q) None (before q)) → ((q : ℕ) → new q ≡ cond (nat_eq query q) 0 (old q))
    → progress_of (closed query qs) after new ≡ without_progress query (progress_of qs before old)
far_closed query [] before after old new sets left = refl
far_closed query (o ∷ os) before after old new sets left = elim (bool_cases (nat_eq o.place query)) [
  | inl t ↦
      let own : nat_eq (far_of o.place (before o.place) (old o.place)).query query ≡ true =
      ap (λ x. nat_eq x query) (far_query o.place (before o.place) (old o.place)) ∙ t in
      rw t (rw own (far_closed query os before after old new sets left))
  | inr t ↦
      let own : nat_eq (far_of o.place (before o.place) (old o.place)).query query ≡ false =
      ap (λ x. nat_eq x query) (far_query o.place (before o.place) (old o.place)) ∙ t in
      let other : nat_eq query o.place ≡ false = grind (arith, nat_tests, t) in
      let is : after o.place ≡ before o.place = rw other at (sets o.place) in
      let tries : new o.place ≡ old o.place = rw other at (left o.place) in
      rw t (rw own (λ i. far_of o.place (is i) (tries i) ∷ far_closed query os before after old new sets left i))
]

-- ---- how often the jobs of open queries failed

-- by the tries of each place
abbrev pub tries_over : (ℕ → ℕ) → List Open → ℕ
tries_over tries qs = sum_by (λ o. tries o.place) qs

far_tried : (q : ℕ) (e : Option EntryData) (n : ℕ) → (far_of q e n).tried ≡ n
far_tried q None n = refl
far_tried q (Some e) n = refl

over_cons : (tries : ℕ → ℕ) (o : Open) (os : List Open) → tries_over tries (o ∷ os) ≡ tries o.place + tries_over tries os
over_cons tries o os = sum_by-cons (λ (x : Open). tries x.place) o os

pub tried_over : (qs : List Open) (entries : ℕ → Option EntryData) (tries : ℕ → ℕ) → tried_in (progress_of qs entries tries) ≡ tries_over tries qs
tried_over [] entries tries = refl
tried_over (o ∷ os) entries tries =
    let all = sum_by-cons (λ (p : QueryProgress). p.tried) (far_of o.place (entries o.place) (tries o.place)) (progress_of os entries tries) in
    let one = far_tried o.place (entries o.place) (tries o.place) in
    let rest = tried_over os entries tries in
    let over = over_cons tries o os in
    omega (arith, all, one, rest, over)

pub tried_begun : (query : ℕ) (ps : List QueryProgress) → tried_in (ps ++ begun query ∷ []) ≡ tried_in ps
tried_begun query ps = let more = sum_by_push (λ (p : QueryProgress). p.tried) ps (begun query) in omega (arith, more)

-- one query's at most rise by one
module _ (query : ℕ) (old new : ℕ → ℕ) (others : (q : ℕ) → (q ≡ query → ⊥) → new q ≡ old q) where
  over_same : (least : ℕ) (qs : List Open) → query < least → Above least qs → tries_over new qs ≡ tries_over old qs
  over_same least [] p h = refl
  over_same least (o ∷ os) p h =
      let low = h.0 in
      let one = others o.place (λ e. omega (arith, p, low, e)) in
      let rest = over_same (o.place + 1) os (omega (arith, p, low)) h.1 in
      let now = over_cons new o os in
      let was = over_cons old o os in
      omega (arith, one, rest, now, was)

  pub over_once : new query ≤ old query + 1 → (least : ℕ) (qs : List Open) → Above least qs → tries_over new qs ≤ tries_over old qs + 1
  over_once more least [] h = omega arith
  over_once more least (o ∷ os) h =
      let now = over_cons new o os in
      let was = over_cons old o os in
      elim (bool_cases (nat_eq o.place query)) [
        | inl t ↦
            let same : o.place ≡ query = grind (arith, nat_tests, t) in
            let one : new o.place ≤ old o.place + 1 = subst (λ x. new x ≤ old x + 1) (sym same) more in
            let rest = over_same (o.place + 1) os (omega (arith, same)) h.1 in
            omega (arith, now, was, one, rest)
        | inr t ↦
            let one = others o.place (λ e. grind (arith, nat_tests, t, e)) in
            let rest = over_once more (o.place + 1) os h.1 in
            omega (arith, now, was, one, rest)
      ]

  -- where it goes
  over_left : (qs : List Open) → tries_over new (closed query qs) ≤ tries_over old qs
  over_left [] = omega arith
  over_left (o ∷ os) =
      let was = over_cons old o os in
      let rest = over_left os in
      elim (bool_cases (nat_eq o.place query)) [
        | inl t ↦ rw t (omega (arith, was, rest))
        | inr t ↦
            let now = over_cons new o (closed query os) in
            let one = others o.place (λ e. grind (arith, nat_tests, t, e)) in
            rw t (omega (arith, was, rest, now, one))
      ]

  pub over_gone : (qs : List Open) (o : Open) → open_at query qs ≡ Some o → tries_over new (closed query qs) + old query ≤ tries_over old qs
  over_gone [] o h = cc
  over_gone (p ∷ ps) o h =
      let was = over_cons old p ps in
      elim (bool_cases (nat_eq p.place query)) [
        | inl t ↦
            let same : p.place ≡ query = grind (arith, nat_tests, t) in
            let one = ap old same in
            let rest = over_left ps in
            rw t (omega (arith, was, one, rest))
        | inr t ↦
            let there : open_at query ps ≡ Some o = rw t at h in
            let now = over_cons new p (closed query ps) in
            let one = others p.place (λ e. grind (arith, nat_tests, t, e)) in
            let rest = over_gone ps o there in
            rw t (omega (arith, was, now, one, rest))
      ]
