-- What is kept beside the journal goes with the machine, entry by entry.
use Rattle.std.proofs.Common.{◌≡◌, ◌≢◌, ℕ, ◌+◌, ◌-◌, ◌<◌, ◌≤◌, inl, inr, true, false, cond, nat_eq, Some, List, [], ◌∷◌, ◌++◌, length, sym, ap, ◌∙◌, arith, slice_get, slice_set, subst}
use Rattle.std.proofs.lemmas.Bool.Decides.{nat_tests}
use Rattle.std.proofs.lemmas.Option.{slice_get_within}
use Rattle.pf_base.specs.declared.plain.Limits.{Limits}
use Rattle.pf_journal.specs.Legal.{Legal, IsLawful, Moment, moments, machine_after}
use Rattle.pf_model.specs.Lists.{Each}
use Rattle.pf_model.specs.Log.{Change, Rules}
use Rattle.pf_journal.specs.Machine.{Machine, Open, What, append, delete, ask, full, no_tenant, cancel, answer, Entry, Allowed, started, log_of, with_log, open_at, cancelled_at, closed, open_of}
use Rattle.pf_store.specs.Standing.{IsLog, LogData}
use Rattle.pf_core.specs.States.{KeepsLogs, KeepsCounts, AreOpen, Above}
use Rattle.pf_core.specs.Seats.{AreApart}
use Rattle.pf_core.proofs.Lists.{get_push, get_set_same, get_set_other, take_front, each_push, each_map}
use Rattle.pf_core.proofs.Machines.{bool_cases, moments_push, length_with_log, log_of_same, log_of_other, each_cancelled, each_closed, above_cancelled, above_closed, above_push, open_closed, open_none, open_push}

-- ---- logs

pub logs_set : (rules : Rules) (kept : List LogData) (logs : List (List Change)) (u : ℕ) (d : LogData) (log : List Change)
    → KeepsLogs rules kept logs → u < length kept → u ≤ length logs → IsLog rules d log
    → KeepsLogs rules (slice_set kept u d) (with_log logs u log)
logs_set rules kept logs u d log h inside near is v e g = elim (bool_cases (nat_eq v u)) [
  | inl t ↦
      let same : v ≡ u = grind (arith, nat_tests, t) in
      let there : slice_get (slice_set kept u d) v ≡ Some d = subst (λ x. slice_get (slice_set kept u d) x ≡ Some d) (sym same) (get_set_same kept u d inside) in
      let found : d ≡ e = cc in
      let after : log_of (with_log logs u log) v ≡ log = subst (λ x. log_of (with_log logs u log) x ≡ log) (sym same) (log_of_same logs u log near) in
      subst (λ (x : LogData). IsLog rules x (log_of (with_log logs u log) v)) found (subst (λ (l : List Change). IsLog rules d l) (sym after) is)
  | inr t ↦
      let other : v ≢ u = λ s. grind (arith, nat_tests, t, s) in
      let was : slice_get kept v ≡ Some e = sym (get_set_other kept u v d other) ∙ g in
      subst (λ (l : List Change). IsLog rules e l) (sym (log_of_other logs u v log near other)) (h v e was)
]

pub logs_put : (rules : Rules) (kept : List LogData) (logs : List (List Change)) (u : ℕ) (d : LogData) (log : List Change)
    → KeepsLogs rules kept logs → u ≡ length kept → u ≡ length logs → IsLog rules d log
    → KeepsLogs rules (kept ++ d ∷ []) (with_log logs u log)
logs_put rules kept logs u d log h at_end near is v e g = elim (get_push kept d v e g) [
  | inl was ↦
      let inside = slice_get_within kept v e was in
      let other : v ≢ u = λ s. omega (arith, s, inside, at_end) in
      subst (λ (l : List Change). IsLog rules e l) (sym (log_of_other logs u v log (omega (arith, near)) other)) (h v e was)
  | inr new ↦
      let here : v ≡ u = new.0 ∙ sym at_end in
      let after : log_of (with_log logs u log) v ≡ log =
      subst (λ x. log_of (with_log logs u log) x ≡ log) (sym here) (log_of_same logs u log (omega (arith, near))) in
      subst (λ (x : LogData). IsLog rules x (log_of (with_log logs u log) v)) (sym new.1) (subst (λ (l : List Change). IsLog rules d l) (sym after) is)
]

-- ---- counts

pub counts_set : (kept : List ℕ) (qs rs : List Open) (u n : ℕ)
    → KeepsCounts kept qs → u < length kept → n ≡ open_of u rs → ((v : ℕ) → v ≢ u → open_of v rs ≡ open_of v qs)
    → KeepsCounts (slice_set kept u n) rs
counts_set kept qs rs u n h inside counted others v k g = elim (bool_cases (nat_eq v u)) [
  | inl t ↦
      let same : v ≡ u = grind (arith, nat_tests, t) in
      let there : slice_get (slice_set kept u n) v ≡ Some n = subst (λ x. slice_get (slice_set kept u n) x ≡ Some n) (sym same) (get_set_same kept u n inside) in
      let found : n ≡ k = cc in
      sym found ∙ counted ∙ ap (λ x. open_of x rs) (sym same)
  | inr t ↦
      let other : v ≢ u = λ s. grind (arith, nat_tests, t, s) in
      let was : slice_get kept v ≡ Some k = sym (get_set_other kept u v n other) ∙ g in
      h v k was ∙ sym (others v other)
]

pub counts_asked : (kept : List ℕ) (qs : List Open) (o : Open) (n : ℕ)
    → KeepsCounts kept qs → slice_get kept o.tenant ≡ Some n → o.tenant < length kept
    → KeepsCounts (slice_set kept o.tenant (n + 1)) (qs ++ o ∷ [])
counts_asked kept qs o n h g inside =
    let same : nat_eq o.tenant o.tenant ≡ true = grind (arith, nat_tests) in
    let now = open_push o.tenant qs o in
    let was = h o.tenant n g in
    counts_set kept qs (qs ++ o ∷ []) o.tenant (n + 1) h inside
    (let one : open_of o.tenant (qs ++ o ∷ []) ≡ open_of o.tenant qs + cond true 1 0 = rw same at now in omega (arith, one, was))
    (λ v d.
    let other : nat_eq o.tenant v ≡ false = grind (arith, nat_tests, d) in
    let then = open_push v qs o in
    let none : open_of v (qs ++ o ∷ []) ≡ open_of v qs + cond false 1 0 = rw other at then in
    omega (arith, none))

pub counts_answered : (kept : List ℕ) (qs : List Open) (place n : ℕ) (o : Open)
    → KeepsCounts kept qs → Above 0 qs → open_at place qs ≡ Some o → slice_get kept o.tenant ≡ Some n → o.tenant < length kept
    → KeepsCounts (slice_set kept o.tenant (n - 1)) (closed place qs)
counts_answered kept qs place n o h above found g inside =
    let same : nat_eq o.tenant o.tenant ≡ true = grind (arith, nat_tests) in
    let now = open_closed 0 place o.tenant qs o above found in
    let was = h o.tenant n g in
    counts_set kept qs (closed place qs) o.tenant (n - 1) h inside
    (let one : open_of o.tenant qs ≡ open_of o.tenant (closed place qs) + cond true 1 0 = rw same at now in omega (arith, one, was))
    (λ v d.
    let other : nat_eq o.tenant v ≡ false = grind (arith, nat_tests, d) in
    let then = open_closed 0 place v qs o above found in
    let none : open_of v qs ≡ open_of v (closed place qs) + cond false 1 0 = rw other at then in
    omega (arith, none))

pub counts_grow : (kept : List ℕ) (qs : List Open) (n : ℕ)
    → KeepsCounts kept qs → length kept ≡ n → Each (λ o. o.tenant < n) qs → KeepsCounts (kept ++ 0 ∷ []) qs
counts_grow kept qs n h many known v k g = elim (get_push kept 0 v k g) [
  | inl was ↦ h v k was
  | inr new ↦ new.1 ∙ sym (open_none n v qs known (omega (arith, many, new.0)))
]

-- ---- open queries

abbrev pub machine_with : List (List Change) → List Open → ℕ → Machine
machine_with logs qs count = record { logs = logs; queries = qs; count = count }

pub are_open_log : (m : Machine) (u : ℕ) (log : List Change) → u ≤ length m.logs → AreOpen m
    → AreOpen (machine_with (with_log m.logs u log) m.queries (m.count + 1))
are_open_log m u log near h =
    let long = length_with_log m.logs u log near in
    record {
      apart = h.apart;
      below = each_map _ _ (λ (o : Open) (p : o.place < m.count). omega (arith, p)) m.queries h.below;
      known = each_map _ _ (λ (o : Open) (p : o.tenant < length m.logs). omega (arith, p, long)) m.queries h.known;
    }

pub are_open_same : (m : Machine) → AreOpen m → AreOpen (machine_with m.logs m.queries (m.count + 1))
are_open_same m h = record {
  apart = h.apart;
  below = each_map _ _ (λ (o : Open) (p : o.place < m.count). omega (arith, p)) m.queries h.below;
  known = h.known;
}

pub are_open_asked : (m : Machine) (o : Open) (log : List Change) → o.tenant ≤ length m.logs → o.place ≡ m.count → AreOpen m
    → AreOpen (machine_with (with_log m.logs o.tenant log) (m.queries ++ o ∷ []) (m.count + 1))
are_open_asked m o log near place h =
    let long = length_with_log m.logs o.tenant log near in
    record {
      apart = above_push 0 m.count m.queries o h.apart h.below (omega arith) place;
      below = each_push _ m.queries o (each_map _ _ (λ (q : Open) (p : q.place < m.count). omega (arith, p)) m.queries h.below) (omega (arith, place));
      known = each_push _ m.queries o (each_map _ _ (λ (q : Open) (p : q.tenant < length m.logs). omega (arith, p, long)) m.queries h.known) (omega (arith, near, long));
    }

pub are_open_answered : (m : Machine) (place : ℕ) → AreOpen m → AreOpen (machine_with m.logs (closed place m.queries) (m.count + 1))
are_open_answered m place h = record {
  apart = above_closed 0 place m.queries h.apart;
  below = each_map _ _ (λ (o : Open) (p : o.place < m.count). omega (arith, p)) (closed place m.queries) (each_closed _ place m.queries h.below);
  known = each_closed _ place m.queries h.known;
}

pub are_open_cancelled : (m : Machine) (place query : ℕ) → AreOpen m → AreOpen (machine_with m.logs (cancelled_at place query m.queries) (m.count + 1))
are_open_cancelled m place query h = record {
  apart = above_cancelled 0 place query m.queries h.apart;
  below = each_cancelled _ place query (λ (o : Open) (p : o.place < m.count + 1). p) m.queries
      (each_map _ _ (λ (o : Open) (p : o.place < m.count). omega (arith, p)) m.queries h.below);
  known = each_cancelled _ place query (λ (o : Open) (p : o.tenant < length m.logs). p) m.queries h.known;
}

-- ---- legal journals

allowed_more : (l : Limits) (names more : List (List ℕ)) (m : Machine) (x : What)
    → Allowed l names m x → length m.logs ≤ length names → Allowed l (names ++ more) m x
allowed_more l names more m (append u batch vs entry) h p = h
allowed_more l names more m (delete u ms from to generation entry) h p = h
allowed_more l names more m (ask u asked pin generation floor) h p = h
allowed_more l names more m (full u outstanding) h p = h
allowed_more l names more m (no_tenant name) h p = record {
  many = h.many;
  unknown = λ u g. h.unknown u (subst (λ (ns : List (List ℕ)). slice_get ns u ≡ Some name) (take_front (length m.logs) names more p) g);
}
allowed_more l names more m (cancel query) h p = h
allowed_more l names more m (answer query code cached evaluated) h p = h

lawful_more : (l : Limits) (names more : List (List ℕ)) (x : Moment) → IsLawful l names x → IsLawful l (names ++ more) x
lawful_more l names more x h = record {
  allowed = allowed_more l names more x.before x.entry.what h.allowed h.named;
  room = h.room;
  named = let long = length_front names more in omega (arith, long, h.named);
} where
  length_front : (xs ys : List (List ℕ)) → length xs ≤ length (xs ++ ys)
  length_front [] ys = omega arith
  length_front (x ∷ xs) ys = let rest = length_front xs ys in omega (arith, rest)

pub legal_push : (l : Limits) (names more : List (List ℕ)) (J : List Entry) (e : Entry) → Legal l names J
    → IsLawful l (names ++ more) (record { before = machine_after started J; entry = e }) → Legal l (names ++ more) (J ++ e ∷ [])
legal_push l names more J e h new =
    subst (Each (IsLawful l (names ++ more))) (sym (moments_push started J e))
    (each_push _ (moments J) _ (each_map _ _ (lawful_more l names more) (moments J) h) new)

-- ---- names

pub apart_grows : (names : List (List ℕ)) (name : List ℕ) → AreApart names → ((u : ℕ) → slice_get names u ≡ Some name → ⊥) → AreApart (names ++ name ∷ [])
apart_grows names name h new u v x p q = elim (get_push names name u x p) [
  | inl a ↦ elim (get_push names name v x q) [
    | inl b ↦ h u v x a b
    | inr b ↦ absurd (new u (subst (λ (n : List ℕ). slice_get names u ≡ Some n) b.1 a))
  ]
  | inr a ↦ elim (get_push names name v x q) [
    | inl b ↦ absurd (new v (subst (λ (n : List ℕ). slice_get names v ≡ Some n) a.1 b))
    | inr b ↦ a.0 ∙ sym b.0
  ]
]
