-- How far queries are, once one of them is changed.
use Rattle.std.proofs.Common.{◌≡◌, ℕ, Bool, true, false, ◌⊎◌, inl, inr, cond, nat_eq, Option, None, Some, List, [], ◌∷◌, refl, sym, ap, ◌∙◌, subst}
use Rattle.pf_base.specs.declared.plain.Limits.{Limits}
use Rattle.pf_core.specs.Cores.{CoreData}
use Rattle.pf_core.specs.Progress.{GoesWith, IsProgressOf, QueryProgress, exhausted, progress_at, stopped, tried_once, with_progress}
use Rattle.pf_front.specs.Settling.{IsBegun}
use Rattle.pf_journal.specs.Machine.{Open, open_at}
use Rattle.pf_query.specs.Entries.{stop_after}
use Rattle.pf_query.specs.declared.stop.Stop.{Stop}
use Rattle.pf_query.specs.declared.stop.Stop.TheVariants.{Exhausted}

pub some_is : {X : Type 0} (x y : X) → Some x ≡ Some y → x ≡ y
some_is x y e = cc

pub not_none : {X : Type 0} (x : X) (o : Option X) → o ≡ None → o ≡ Some x → ⊥
not_none x o e f = cc

module _ (query : ℕ) (change : QueryProgress → QueryProgress) (same : (p : QueryProgress) → (change p).query ≡ p.query) where
  changed_by : (b : Bool) (p far : QueryProgress) (old new : Option QueryProgress) → nat_eq p.query query ≡ b → cond b (Some p) old ≡ Some far
      → (old ≡ Some far → new ≡ Some (change far))
      → cond (nat_eq (cond b (change p) p).query query) (Some (cond b (change p) p)) new ≡ Some (change far)
  changed_by true p far old new e is more =
      ap (λ (n : ℕ). cond (nat_eq n query) (Some (change p)) new) (same p) ∙ ap (λ (b : Bool). cond b (Some (change p)) new) e
      ∙ ap (λ (x : QueryProgress). Some (change x)) (some_is p far is)
  changed_by false p far old new e is more = ap (λ (b : Bool). cond b (Some p) new) e ∙ more is

  -- that of the query itself
  pub at_changed : (ps : List QueryProgress) (far : QueryProgress) → progress_at query ps ≡ Some far
      → progress_at query (with_progress query change ps) ≡ Some (change far)
  at_changed [] far is = absurd (not_none far None refl is)
  at_changed (p ∷ ps) far is =
      changed_by (nat_eq p.query query) p far (progress_at query ps) (progress_at query (with_progress query change ps)) refl is (at_changed ps far)

  query_of : (b : Bool) (p : QueryProgress) → (cond b (change p) p).query ≡ p.query
  query_of true p = same p
  query_of false p = refl

  one_of : (b : Bool) (p : QueryProgress) → (cond b (change p) p ≡ p) ⊎ (cond b (change p) p ≡ change p)
  one_of true p = inr refl
  one_of false p = inl refl

  -- it is as it was, or changed
  abbrev pub Stays : QueryProgress → Option QueryProgress → Type 0
  Stays far found = (after : QueryProgress) × ((found ≡ Some after) × ((after ≡ far) ⊎ (after ≡ change far)))

  same_as : (p x far : QueryProgress) → p ≡ far → (x ≡ p) ⊎ (x ≡ change p) → (x ≡ far) ⊎ (x ≡ change far)
  same_as p x far e (inl is) = inl (is ∙ e)
  same_as p x far e (inr is) = inr (is ∙ ap change e)

  stays_by : (a : Bool) (p x far : QueryProgress) (old new : Option QueryProgress) → cond a (Some p) old ≡ Some far
      → (x ≡ p) ⊎ (x ≡ change p) → (old ≡ Some far → Stays far new) → Stays far (cond a (Some x) new)
  stays_by true p x far old new is one more = (x, (refl, same_as p x far (some_is p far is) one))
  stays_by false p x far old new is one more = more is

  -- that of any query
  pub stays : (q : ℕ) (ps : List QueryProgress) (far : QueryProgress) → progress_at q ps ≡ Some far
      → Stays far (progress_at q (with_progress query change ps))
  stays q [] far is = absurd (not_none far None refl is)
  stays q (p ∷ ps) far is =
      let x : QueryProgress = cond (nat_eq p.query query) (change p) p in
      let new : Option QueryProgress = progress_at q (with_progress query change ps) in
      subst (λ (n : ℕ). Stays far (cond (nat_eq n q) (Some x) new)) (sym (query_of (nat_eq p.query query) p))
      (stays_by (nat_eq p.query q) p x far (progress_at q ps) new is (one_of (nat_eq p.query query) p) (stays q ps far))

-- ---- queries that are planned or stopped

pub begun_same : (old new : CoreData) (query : ℕ) → new.progress ≡ old.progress → IsBegun old query → IsBegun new query
begun_same old new query e b = record { far = b.far; is_far = ap (progress_at query) e ∙ b.is_far; begun = b.begun }

abbrev Begun : QueryProgress → Type 0
Begun far = (far.planned ≡ true) ⊎ ((why : Stop) × (far.stop ≡ Some why))

still_begun : (change : QueryProgress → QueryProgress) → ((p : QueryProgress) → Begun p → Begun (change p)) → (far after : QueryProgress)
    → (after ≡ far) ⊎ (after ≡ change far) → Begun far → Begun after
still_begun change keeps far after (inl is) b = subst Begun (sym is) b
still_begun change keeps far after (inr is) b = subst Begun (sym is) (keeps far b)

begun_changed : (old new : CoreData) (one : ℕ) (change : QueryProgress → QueryProgress) → ((p : QueryProgress) → (change p).query ≡ p.query)
    → ((p : QueryProgress) → Begun p → Begun (change p)) → (query : ℕ) → new.progress ≡ with_progress one change old.progress
    → IsBegun old query → IsBegun new query
begun_changed old new one change same keeps query e b =
    let s = stays one change same query old.progress b.far b.is_far in
    record { far = s.0; is_far = ap (progress_at query) e ∙ s.1.0; begun = still_begun change keeps b.far s.0 s.1.1 b.begun }

-- a stop leaves them so
pub begun_stopped : (old new : CoreData) (stop : ℕ) (why : Stop) (query : ℕ) → new.progress ≡ with_progress stop (stopped why) old.progress
    → IsBegun old query → IsBegun new query
begun_stopped old new stop why query e b =
    begun_changed old new stop (stopped why) (λ p. refl) (λ p _. inr (stop_after p.stop why, refl)) query e b

pub begun_exhausted : (old new : CoreData) (stop job : ℕ) (query : ℕ) → new.progress ≡ with_progress stop (exhausted job) old.progress
    → IsBegun old query → IsBegun new query
begun_exhausted old new stop job query e b =
    begun_changed old new stop (exhausted job) (λ p. refl) (λ p _. inr (stop_after p.stop (Exhausted job), refl)) query e b

-- and a failed try
pub begun_tried : (old new : CoreData) (one query : ℕ) → new.progress ≡ with_progress one tried_once old.progress → IsBegun old query → IsBegun new query
begun_tried old new one query e b = begun_changed old new one tried_once (λ p. refl) (λ p k. k) query e b

pub begun_if : (old new : CoreData) (one query : ℕ) (failed : Bool) → new.progress ≡ cond failed (with_progress one tried_once old.progress) old.progress
    → IsBegun old query → IsBegun new query
begun_if old new one query true e b = begun_tried old new one query e b
begun_if old new one query false e b = begun_same old new query e b

-- ---- each open query has a place

goes_far_by : (b : Bool) (p : QueryProgress) (o x : Open) (os : Option Open) (ps : Option QueryProgress) → cond b (Some o) os ≡ Some x
    → (os ≡ Some x → (far : QueryProgress) × (ps ≡ Some far)) → (far : QueryProgress) × (cond b (Some p) ps ≡ Some far)
goes_far_by true p o x os ps is more = (p, refl)
goes_far_by false p o x os ps is more = more is

pub has_far : (l : Limits) (query : ℕ) (os : List Open) (ps : List QueryProgress) (o : Open) → GoesWith l os ps → open_at query os ≡ Some o
    → (far : QueryProgress) × (progress_at query ps ≡ Some far)
has_far l query [] ps o g is = absurd (not_none o None refl is)
has_far l query (x ∷ os) [] o g is = absurd g
has_far l query (x ∷ os) (p ∷ ps) o g is =
    subst (λ (n : ℕ). (far : QueryProgress) × (cond (nat_eq n query) (Some p) (progress_at query ps) ≡ Some far)) (sym g.0.place)
    (goes_far_by (nat_eq x.place query) p x o (open_at query os) (progress_at query ps) is (has_far l query os ps o g.1))

progress_by : (l : Limits) (b : Bool) (x o : Open) (p far : QueryProgress) (os : Option Open) (ps : Option QueryProgress) → IsProgressOf l x p
    → cond b (Some x) os ≡ Some o → cond b (Some p) ps ≡ Some far → (os ≡ Some o → ps ≡ Some far → IsProgressOf l o far) → IsProgressOf l o far
progress_by l true x o p far os ps h e f more =
    subst (λ (y : Open). IsProgressOf l y far) (some_is x o e) (subst (IsProgressOf l x) (some_is p far f) h)
progress_by l false x o p far os ps h e f more = more e f

-- how far an open query is goes with it
pub progress_of : (l : Limits) (query : ℕ) (os : List Open) (ps : List QueryProgress) (o : Open) (far : QueryProgress) → GoesWith l os ps → open_at query os ≡ Some o
    → progress_at query ps ≡ Some far → IsProgressOf l o far
progress_of l query [] ps o far g e f = absurd (not_none o None refl e)
progress_of l query (x ∷ os) [] o far g e f = absurd g
progress_of l query (x ∷ os) (p ∷ ps) o far g e f =
    progress_by l (nat_eq x.place query) x o p far (open_at query os) (progress_at query ps) g.0 e
    (ap (λ (n : ℕ). cond (nat_eq n query) (Some p) (progress_at query ps)) (sym g.0.place) ∙ f) (progress_of l query os ps o far g.1)

-- a query that was stopped is stopped
stopped_by : (query : ℕ) (why : Stop) (b : Bool) (p far : QueryProgress) (new : Option QueryProgress) → nat_eq p.query query ≡ b
    → cond (nat_eq (cond b (stopped why p) p).query query) (Some (cond b (stopped why p) p)) new ≡ Some far
    → (new ≡ Some far → (s : Stop) × (far.stop ≡ Some s)) → (s : Stop) × (far.stop ≡ Some s)
stopped_by query why true p far new e is more =
    let f : Some (stopped why p) ≡ Some far = sym (ap (λ (b : Bool). cond b (Some (stopped why p)) new) e) ∙ is in
    (stop_after p.stop why, sym (ap (λ (x : QueryProgress). x.stop) (some_is (stopped why p) far f)))
stopped_by query why false p far new e is more = more (sym (ap (λ (b : Bool). cond b (Some p) new) e) ∙ is)

pub is_stopped : (query : ℕ) (why : Stop) (ps : List QueryProgress) (far : QueryProgress)
    → progress_at query (with_progress query (stopped why) ps) ≡ Some far → (s : Stop) × (far.stop ≡ Some s)
is_stopped query why [] far is = absurd (not_none far None refl is)
is_stopped query why (p ∷ ps) far is =
    stopped_by query why (nat_eq p.query query) p far (progress_at query (with_progress query (stopped why) ps)) refl is (is_stopped query why ps far)
