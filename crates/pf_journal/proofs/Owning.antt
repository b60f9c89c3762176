-- A client's own moments grow with the entries that it adds, and with no other.
use Rattle.std.proofs.Common.{◌≡◌, ℕ, ◌+◌, ◌<◌, ◌≤◌, ◌⊎◌, inl, inr, true, false, nat_eq, List, [], ◌∷◌, ◌++◌, length, refl, sym, ap, ◌∙◌, subst, append-nil, arith}
use Rattle.std.proofs.lemmas.Bool.Decides.{nat_tests}
use Rattle.std.proofs.lemmas.List.{length-append}
use Rattle.std.proofs.lemmas.List.Elements.{filter-append}
use mathlib.Core.List.{IsPrefix}
use Rattle.pf_model.specs.Lists.{Each}
use Rattle.pf_journal.proofs.Histories.{journal_append, journal_length, journal_prefix}
use Rattle.pf_journal.proofs.Opened.{bool_cases}
use Rattle.pf_journal.specs.Legal.{Moment, machine_after, moments, moments_from}
use Rattle.pf_journal.specs.Machine.{Entry, Machine, next, started}
use Rattle.pf_journal.specs.Named.{Named, journal_of}
use Rattle.pf_journal.specs.Owned.{CancelsOwn, Holds, OwnsEach, OwnsWithin, own_at, own_of, owns}
use Rattle.pf_journal.specs.Turns.{place_of}

-- ---- lists

pub prefix_length : {X : Type 0} (xs ys : List X) → IsPrefix xs ys → length xs ≤ length ys
prefix_length xs ys p = let l = length-append xs p.0 in let e = ap length p.1 in omega (arith, l, e)

each_so : {X : Type 0} (P Q : X → Type 0) → ((x : X) → P x → Q x) → (xs : List X) → Each P xs → Each Q xs
each_so P Q f [] h = tt
each_so P Q f (x ∷ xs) h = (f x h.0, each_so P Q f xs h.1)

each_snoc : {X : Type 0} (P : X → Type 0) (xs : List X) (x : X) → Each P xs → P x → Each P (xs ++ x ∷ [])
each_snoc P [] x h p = (p, tt)
each_snoc P (y ∷ ys) x h p = (h.0, each_snoc P ys x h.1 p)

-- ---- places

-- a place of two lists is one of the first or of the second
pub owns_either : (xs ys : List ℕ) (p : ℕ) → owns (xs ++ ys) p ≡ true → (owns xs p ≡ true) ⊎ (owns ys p ≡ true)
owns_either [] ys p h = inr h
owns_either (x ∷ xs) ys p h = elim (bool_cases (nat_eq x p)) [
  | inl t ↦ inl (rw t refl)
  | inr t ↦
      let there : owns (xs ++ ys) p ≡ true = rw t at h in
      elim (owns_either xs ys p there) [
        | inl a ↦ inl (rw t a)
        | inr b ↦ inr b
      ]
]

-- further places leave those before them
pub owns_more : (own more : List ℕ) (p : ℕ) → owns own p ≡ true → owns (own ++ more) p ≡ true
owns_more [] more p h = cc
owns_more (x ∷ own) more p h = elim (bool_cases (nat_eq x p)) [
  | inl t ↦ rw t refl
  | inr t ↦
      let there : owns own p ≡ true = rw t at h in
      rw t (owns_more own more p there)
]

pub owns_last : (own : List ℕ) (n : ℕ) → owns (own ++ n ∷ []) n ≡ true
owns_last [] n = grind (arith, nat_tests)
owns_last (x ∷ own) n = elim (bool_cases (nat_eq x n)) [
  | inl t ↦ rw t refl
  | inr t ↦ rw t (owns_last own n)
]

-- and change nothing else
pub owns_other : (own : List ℕ) (n p : ℕ) → nat_eq n p ≡ false → owns (own ++ n ∷ []) p ≡ owns own p
owns_other [] n p h = rw h refl
owns_other (x ∷ own) n p h = rw (owns_other own n p h) refl

pub within_each : (n : ℕ) (own : List ℕ) → Each (λ p. p < n) own → OwnsWithin n own
within_each n [] h p mine = cc
within_each n (q ∷ own) h p mine = elim (bool_cases (nat_eq q p)) [
  | inl t ↦ let same : q ≡ p = grind (arith, nat_tests, t) in let low = h.0 in omega (arith, same, low)
  | inr t ↦
      let there : owns own p ≡ true = rw t at mine in
      within_each n own h.1 p there
]

pub within_later : (m n : ℕ) (own : List ℕ) → m ≤ n → OwnsWithin m own → OwnsWithin n own
within_later m n own le h p mine = let low = h p mine in omega (arith, low, le)

pub within_entered : (m n : ℕ) (own : List ℕ) → m ≤ n → OwnsWithin m own → OwnsWithin (n + 1) (own ++ n ∷ [])
within_entered m n own le h p mine = elim (bool_cases (nat_eq n p)) [
  | inl t ↦ let same : n ≡ p = grind (arith, nat_tests, t) in omega (arith, same)
  | inr t ↦ let low = h p (sym (owns_other own n p t) ∙ mine) in omega (arith, low, le)
]

-- ---- moments

pub moments_append : (m : Machine) (es fs : List Entry) → moments_from m (es ++ fs) ≡ moments_from m es ++ moments_from (machine_after m es) fs
moments_append m [] fs = refl
moments_append m (e ∷ es) fs = ap (λ xs. record { before = m; entry = e } ∷ xs) (moments_append (next m e.what) es fs)

pub count_after : (m : Machine) (es : List Entry) → (machine_after m es).count ≡ m.count + length es
count_after m [] = omega arith
count_after m (e ∷ es) = let c = count_after (next m e.what) es in omega (arith, c)

not_owned : (own : List ℕ) (n p : ℕ) → OwnsWithin n own → n ≤ p → owns own p ≡ false
not_owned own n p h le = elim (bool_cases (owns own p)) [
  | inl t ↦ let low = h p t in absurd (omega (arith, low, le))
  | inr t ↦ t
]

none_owned : (own : List ℕ) (n : ℕ) (m : Machine) (es : List Entry) → OwnsWithin n own → n ≤ m.count → own_at own (moments_from m es) ≡ []
none_owned own n m [] h le = refl
none_owned own n m (e ∷ es) h le = rw (not_owned own n m.count h le) (none_owned own n (next m e.what) es h (omega (arith, le)))

-- a further place changes no moment before it
owned_before : (own : List ℕ) (n : ℕ) (m : Machine) (es : List Entry) → m.count + length es ≤ n
    → own_at (own ++ n ∷ []) (moments_from m es) ≡ own_at own (moments_from m es)
owned_before own n m [] h = refl
owned_before own n m (e ∷ es) h =
    rw (owns_other own n m.count (grind (arith, nat_tests, h)))
    (rw (owned_before own n (next m e.what) es (omega (arith, h))) refl)

-- what others add is none of a client's moments
pub own_later : (own : List ℕ) (seen found : List Named) → IsPrefix seen found → OwnsWithin (length seen) own → own_of own found ≡ own_of own seen
own_later own seen found grows within =
    let j = journal_prefix seen found grows in
    let behind : Machine = machine_after started (journal_of seen) in
    let count : length seen ≤ behind.count = let l = journal_length seen in let c = count_after started (journal_of seen) in omega (arith, l, c) in
    ap (λ es. own_at own (moments es)) (sym j.1)
    ∙ ap (own_at own) (moments_append started (journal_of seen) j.0)
    ∙ filter-append (λ x. owns own (place_of x)) (moments (journal_of seen)) (moments_from behind j.0)
    ∙ ap (λ xs. own_of own seen ++ xs) (none_owned own (length seen) behind j.0 within count)
    ∙ append-nil (own_of own seen)

-- the moment of an entry at the end of a history
abbrev pub moment_at_end : List Named → Entry → Moment
moment_at_end found e = record { before = machine_after started (journal_of found); entry = e }

-- an own entry is one moment more
pub own_entered : (own : List ℕ) (seen found : List Named) (x : Named) → IsPrefix seen found → OwnsWithin (length seen) own
    → own_of (own ++ length found ∷ []) (found ++ x ∷ []) ≡ own_of own seen ++ moment_at_end found x.entry ∷ []
own_entered own seen found x grows within =
    let n : ℕ = length found in
    let all : List ℕ = own ++ n ∷ [] in
    let y : Moment = moment_at_end found x.entry in
    let l = journal_length found in
    let c = count_after started (journal_of found) in
    let place : n ≡ place_of y = omega (arith, l, c) in
    let here : owns all (place_of y) ≡ true = subst (λ p. owns all p ≡ true) place (owns_last own n) in
    let last : own_at all (y ∷ []) ≡ y ∷ [] = rw here refl in
    ap (λ es. own_at all (moments es)) (journal_append found (x ∷ []))
    ∙ ap (own_at all) (moments_append started (journal_of found) (x.entry ∷ []))
    ∙ filter-append (λ z. owns all (place_of z)) (moments (journal_of found)) (y ∷ [])
    ∙ ap (λ xs. own_at all (moments (journal_of found)) ++ xs) last
    ∙ ap (λ xs. xs ++ y ∷ []) (owned_before own n started (journal_of found) (omega (arith, l)) ∙ own_later own seen found grows within)

pub own_none : (xs : List Moment) → own_at [] xs ≡ []
own_none [] = refl
own_none (x ∷ xs) = own_none xs

-- where all places are own, all moments are
own_each : (own : List ℕ) (m : Machine) (es : List Entry) → OwnsEach (m.count + length es) own → own_at own (moments_from m es) ≡ moments_from m es
own_each own m [] h = refl
own_each own m (e ∷ es) h =
    rw (h m.count (omega arith))
    (ap (λ xs. record { before = m; entry = e } ∷ xs) (own_each own (next m e.what) es (λ p low. h p (omega (arith, low)))))

pub own_all : (own : List ℕ) (xs : List Named) → OwnsEach (length xs) own → own_of own xs ≡ moments (journal_of xs)
own_all own xs h = own_each own started (journal_of xs) (λ p low. h p (let l = journal_length xs in omega (arith, low, l)))

-- ---- clients

pub holds_begins : (client : ℕ) (seen : List Named) → Holds client [] seen
holds_begins client seen =
    let none = own_none (moments (journal_of seen)) in
    record {
      within = λ p mine. cc;
      mine = subst (Each (λ x. x.entry.client ≡ client)) (sym none) tt;
      home = subst (Each (CancelsOwn [])) (sym none) tt;
    }

-- entries of others
pub holds_later : (client : ℕ) (own : List ℕ) (seen found : List Named) → IsPrefix seen found → Holds client own seen → Holds client own found
holds_later client own seen found grows h =
    let same = own_later own seen found grows h.within in
    record {
      within = within_later (length seen) (length found) own (prefix_length seen found grows) h.within;
      mine = subst (Each (λ x. x.entry.client ≡ client)) (sym same) h.mine;
      home = subst (Each (CancelsOwn own)) (sym same) h.home;
    }

-- an own entry
pub holds_entered : (client : ℕ) (own : List ℕ) (seen found : List Named) (x : Named) → IsPrefix seen found → Holds client own seen
    → x.entry.client ≡ client → CancelsOwn own (moment_at_end found x.entry)
    → Holds client (own ++ length found ∷ []) (found ++ x ∷ [])
holds_entered client own seen found x grows h by home =
    let n : ℕ = length found in
    let all : List ℕ = own ++ n ∷ [] in
    let y : Moment = moment_at_end found x.entry in
    let same = own_entered own seen found x grows h.within in
    let more : (query : ℕ) → owns own query ≡ true → owns all query ≡ true = λ query mine. owns_more own (n ∷ []) query mine in
    record {
      within = subst (λ k. OwnsWithin k all) (sym (length-append found (x ∷ [])))
          (within_entered (length seen) n own (prefix_length seen found grows) h.within);
      mine = subst (Each (λ z. z.entry.client ≡ client)) (sym same) (each_snoc _ (own_of own seen) y h.mine by);
      home = subst (Each (CancelsOwn all)) (sym same)
          (each_snoc (CancelsOwn all) (own_of own seen) y
          (each_so (CancelsOwn own) (CancelsOwn all) (λ z k query t. more query (k query t)) (own_of own seen) h.home)
          (λ query t. more query (home query t)));
    }
