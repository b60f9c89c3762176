-- Clients that share a history: what is at a client's own places is what it entered, so each client's weave by what it saw is its
-- weave in the whole journal.
use Rattle.std.proofs.Common.{◌≡◌, ℕ, zero, suc, ◌+◌, ◌<◌, inl, inr, Bool, true, nat_eq, Option, Some, None, List, [], ◌∷◌, ◌++◌, length, filter, slice_get, take, drop, refl, sym, ap, ◌∙◌, subst, arith}
use Rattle.std.proofs.lemmas.Bool.Decides.{nat_tests}
use Rattle.std.proofs.lemmas.Option.{none-some, slice_get_within}
use Rattle.pf_base.specs.declared.plain.Limits.{Limits}
use Rattle.pf_model.specs.Lists.{Each}
use Rattle.pf_match.specs.Tables.{AreTooBig}
use Rattle.pf_model.specs.Queries.{IsReading, Reading}
use Rattle.pf_journal.proofs.Found.{cancels_front, stands}
use Rattle.pf_journal.proofs.Histories.{journal_append, journal_length, named_front}
use Rattle.pf_journal.proofs.Opened.{IsAmong, bool_cases}
use Rattle.pf_journal.proofs.Owning.{count_after, moments_append, own_later, owns_either, prefix_length}
use Rattle.pf_journal.specs.Clients.{Share, SharedWeave, WovenBy, all_own}
use Rattle.pf_journal.specs.Legal.{Moment, machine_after, moments, moments_from}
use Rattle.pf_journal.specs.Machine.{Entry, Machine, next, reserved, started}
use Rattle.pf_journal.specs.Entered.{room_of}
use Rattle.pf_journal.specs.Named.{AreNamedBy, Named, journal_of}
use Rattle.pf_journal.specs.Owned.{AreCancelsOwn, CancelsOwn, own_at, own_of, owns}
use Rattle.pf_journal.specs.Rest.{Client, Known, Rest, Why, at_end, at_full, at_memory}
use Rattle.pf_journal.specs.Scripts.{Line, Numbered}
use Rattle.pf_journal.specs.Turns.{Ran, is_cancel_of, own_moments, place_of, ran_lines}
use Rattle.pf_journal.specs.Weave.{AreTried, Lacks, RunsTo, StopsAt, UnlessStopped, Weave, WovenClient, stops_at}

-- ---- lists

get_exists : {X : Type 0} (xs : List X) (i : ℕ) → i < length xs → (x : X) × (slice_get xs i ≡ Some x)
get_exists [] i h = absurd (omega (arith, h))
get_exists (x ∷ xs) zero h = (x, refl)
get_exists (x ∷ xs) (suc i) h = get_exists xs i (omega (arith, h))

one_got : {X : Type 0} (xs : List X) (i j : ℕ) (x y : X) → i ≡ j → slice_get xs i ≡ Some x → slice_get xs j ≡ Some y → x ≡ y
one_got xs i j x y same a b = let c : slice_get xs j ≡ Some x = subst (λ n. slice_get xs n ≡ Some x) same a in let d = b in cc

filter_same : {X : Type 0} (p q : X → Bool) (xs : List X) → Each (λ x. p x ≡ q x) xs → filter p xs ≡ filter q xs
filter_same p q [] h = refl
filter_same p q (x ∷ xs) h = elim (bool_cases (q x)) [
  | inl t ↦ rw (h.0 ∙ t) (rw t (ap (λ ys. x ∷ ys) (filter_same p q xs h.1)))
  | inr t ↦ rw (h.0 ∙ t) (rw t (filter_same p q xs h.1))
]

each_append : {X : Type 0} (P : X → Type 0) (xs ys : List X) → Each P xs → Each P ys → Each P (xs ++ ys)
each_append P [] ys h k = k
each_append P (x ∷ xs) ys h k = (h.0, each_append P xs ys h.1 k)

-- ---- moments that are among some

all_among : (P : Moment → Type 0) (xs : List Moment) → ((x : Moment) → IsAmong x xs → P x) → Each P xs
all_among P [] f = tt
all_among P (x ∷ xs) f = (f x (inl refl), all_among P xs (λ y h. f y (inr h)))

each_among : (P : Moment → Type 0) (xs : List Moment) (x : Moment) → Each P xs → IsAmong x xs → P x
each_among P [] x h among = absurd among
each_among P (y ∷ ys) x h (inl same) = subst P (sym same) h.0
each_among P (y ∷ ys) x h (inr among) = each_among P ys x h.1 among

among_passes : (q : Moment → Bool) (xs : List Moment) (x : Moment) → IsAmong x xs → q x ≡ true → IsAmong x (filter q xs)
among_passes q [] x h t = absurd h
among_passes q (y ∷ ys) x (inl same) t = rw (ap q (sym same) ∙ t) (inl same)
among_passes q (y ∷ ys) x (inr h) t = elim (bool_cases (q y)) [
  | inl s ↦ rw s (inr (among_passes q ys x h t))
  | inr s ↦ rw s (among_passes q ys x h t)
]

among_right : (xs ys : List Moment) (x : Moment) → IsAmong x ys → IsAmong x (xs ++ ys)
among_right [] ys x h = h
among_right (y ∷ xs) ys x h = inr (among_right xs ys x h)

each_entry : (P : Entry → Type 0) (m : Machine) (es : List Entry) → Each (λ x. P x.entry) (moments_from m es) → Each P es
each_entry P m [] h = tt
each_entry P m (e ∷ es) h = (h.0, each_entry P (next m e.what) es h.1)

-- the moment at a place
record MomentAt (m : Machine) (es : List Entry) (i : ℕ) (e : Entry) : Type 0 where
  moment : Moment
  among : IsAmong moment (moments_from m es)
  place : place_of moment ≡ m.count + i
  entry : moment.entry ≡ e

moment_there : (m : Machine) (es : List Entry) (i : ℕ) (e : Entry) → slice_get es i ≡ Some e → MomentAt m es i e
moment_there m [] i e h = absurd (none-some _ h)
moment_there m (x ∷ es) zero e h = record { moment = record { before = m; entry = x }; among = inl refl; place = omega arith; entry = cc }
moment_there m (x ∷ es) (suc i) e h =
    let r = moment_there (next m x.what) es i e h in
    record { moment = r.moment; among = inr r.among; place = (let p = r.place in omega (arith, p)); entry = r.entry }

-- ---- a longer journal

-- a front of some entries, as one of more
abbrev front_in : ℕ → List Entry → ℕ
front_in zero es = 0
front_in (suc n) [] = 0
front_in (suc n) (e ∷ es) = suc (front_in n es)

take_front : (n : ℕ) (es more : List Entry) → take (front_in n es) (es ++ more) ≡ take n es
take_front zero es more = refl
take_front (suc n) [] more = refl
take_front (suc n) (e ∷ es) more = ap (λ xs. e ∷ xs) (take_front n es more)

drop_front : (n : ℕ) (es more : List Entry) → drop (front_in n es) (es ++ more) ≡ drop n es ++ more
drop_front zero es more = refl
drop_front (suc n) [] more = refl
drop_front (suc n) (e ∷ es) more = drop_front n es more

abbrev pub NoneOf : (client : ℕ) → List Entry → Type 0
NoneOf client es = Each (λ e. e.client ≡ client → ⊥) es

-- others' entries leave it that a journal had too little room
pub lacks_later : (limits : Limits) (es more : List Entry) (client : ℕ) (l : Line) (why : Why) → NoneOf client more
    → Lacks limits es client l why → Lacks limits (es ++ more) client l why
lacks_later limits es more client l at_end none h = h
lacks_later limits es more client l at_memory none h = h
lacks_later limits es more client l at_full none h = record {
  front = front_in h.front es;
  has_all = subst (NoneOf client) (sym (drop_front h.front es more)) (each_append _ (drop h.front es) more h.has_all none);
  over = subst (λ xs. limits.journal < (machine_after started xs).count + reserved (machine_after started xs).queries + room_of l)
      (sym (take_front h.front es more)) h.over;
}

unless_later : (s : Option Why) (P Q : Why → Type 0) (A B : Type 0) → ((w : Why) → P w → Q w) → (A → B) → UnlessStopped s P A → UnlessStopped s Q B
unless_later None P Q A B f g h = g h
unless_later (Some w) P Q A B f g h = f w h

-- and where a client stopped
pub runs_later : (limits : Limits) (es more : List Entry) (client : ℕ) (why : Why) (left : List Numbered) (rs : List Ran) → NoneOf client more
    → RunsTo limits es client why left rs → RunsTo limits (es ++ more) client why left rs
runs_later limits es more client why left [] none h = h
runs_later limits es more client why left (r ∷ rs) none h =
    unless_later (stops_at r.line.line r.told) (StopsAt limits es client why r.line.line rs) (StopsAt limits (es ++ more) client why r.line.line rs)
    (RunsTo limits es client why left rs) (RunsTo limits (es ++ more) client why left rs)
    (λ w k. (k.0, k.1, lacks_later limits es more client r.line.line w none k.2)) (runs_later limits es more client why left rs none) h

-- ---- clients that share a history

module _ {K : Type 0} (own : K → List ℕ) (seen : K → List Named) where
  -- who has a place
  record Owner (ks : List K) (p : ℕ) : Type 0 where
    client : ℕ
    k : K
    there : slice_get ks client ≡ Some k
    mine : owns (own k) p ≡ true

  owner_of : (ks : List K) (p : ℕ) → owns (all_own own ks) p ≡ true → Owner ks p
  owner_of [] p h = cc
  owner_of (k ∷ ks) p h = elim (owns_either (own k) (all_own own ks) p h) [
    | inl t ↦ record { client = 0; k = k; there = refl; mine = t }
    | inr t ↦ let o = owner_of ks p t in record { client = suc o.client; k = o.k; there = o.there; mine = o.mine }
  ]

  module _ (ks : List K) (last : List Named) (s : Share own seen ks last) where
    abbrev all_moments : List Moment
    all_moments = moments (journal_of last)

    own_last : (i : ℕ) (k : K) → slice_get ks i ≡ Some k → own_at (own k) all_moments ≡ own_of (own k) (seen k)
    own_last i k h = own_later (own k) (seen k) last (s.fronts i k h) (s.holds i k h).within

    -- an own moment of the whole history is one that the client saw
    own_there : (i : ℕ) (k : K) → slice_get ks i ≡ Some k → (x : Moment) → IsAmong x all_moments → owns (own k) (place_of x) ≡ true → IsAmong x (own_of (own k) (seen k))
    own_there i k h x among mine =
        subst (IsAmong x) (own_last i k h) (among_passes (λ y. owns (own k) (place_of y)) all_moments x among mine)

    bears : (i : ℕ) (k : K) → slice_get ks i ≡ Some k → (x : Moment) → IsAmong x all_moments → owns (own k) (place_of x) ≡ true → x.entry.client ≡ i
    bears i k h x among mine = each_among (λ y. y.entry.client ≡ i) (own_of (own k) (seen k)) x (s.holds i k h).mine (own_there i k h x among mine)

    low : (x : Moment) → IsAmong x all_moments → place_of x < length last
    low x among =
        let at = stands started (journal_of last) x among in
        let w = slice_get_within (journal_of last) at.i x.entry at.there in
        let p = at.place in let l = journal_length last in omega (arith, w, p, l)

    owner : (x : Moment) → IsAmong x all_moments → Owner ks (place_of x)
    owner x among = owner_of ks (place_of x) (s.all (place_of x) (low x among))

    -- a moment is a client's exactly where the client owns its place
    same : (i : ℕ) (k : K) → slice_get ks i ≡ Some k → (x : Moment) → IsAmong x all_moments → nat_eq x.entry.client i ≡ owns (own k) (place_of x)
    same i k h x among = elim (bool_cases (owns (own k) (place_of x))) [
      | inl mine ↦ let is = bears i k h x among mine in grind (arith, nat_tests, is) ∙ sym mine
      | inr others ↦ elim (bool_cases (nat_eq x.entry.client i)) [
        | inr other ↦ other ∙ sym others
        | inl eq ↦
            let o = owner x among in
            let theirs = bears o.client o.k o.there x among o.mine in
            let i_is : o.client ≡ i = grind (arith, nat_tests, eq, theirs) in
            let k_is : o.k ≡ k = one_got ks o.client i o.k k i_is o.there h in
            let mine : owns (own k) (place_of x) ≡ true = subst (λ (y : K). owns (own y) (place_of x) ≡ true) k_is o.mine in
            cc
      ]
    ]

    -- a client's moments are those at its own places
    pub client_moments : (i : ℕ) (k : K) → slice_get ks i ≡ Some k → own_moments i all_moments ≡ own_of (own k) (seen k)
    client_moments i k h =
        filter_same (λ x. nat_eq x.entry.client i) (λ x. owns (own k) (place_of x)) all_moments (all_among _ all_moments (same i k h)) ∙ own_last i k h

    -- no others than these clients have entries
    pub nobody_else : Each (λ e. e.client < length ks) (journal_of last)
    nobody_else = each_entry _ started (journal_of last) (all_among _ all_moments (λ x among.
        let o = owner x among in
        let is = bears o.client o.k o.there x among o.mine in
        let w = slice_get_within ks o.client o.k o.there in
        omega (arith, is, w)))

    -- behind what a client saw none is its own
    pub none_behind : (i : ℕ) (k : K) (h : slice_get ks i ≡ Some k) → NoneOf i (journal_of (s.fronts i k h).0)
    none_behind i k h =
        let more = journal_of (s.fronts i k h).0 in
        let mid : Machine = machine_after started (journal_of (seen k)) in
        each_entry _ mid more (all_among (λ x. x.entry.client ≡ i → ⊥) (moments_from mid more) (λ x behind is.
        let among : IsAmong x all_moments =
        subst (IsAmong x)
        (sym (moments_append started (journal_of (seen k)) more) ∙ ap moments (sym (journal_append (seen k) (s.fronts i k h).0) ∙ ap journal_of (s.fronts i k h).1))
        (among_right (moments (journal_of (seen k))) (moments_from mid more) x behind) in
        let mine : owns (own k) (place_of x) ≡ true = sym (same i k h x among) ∙ grind (arith, nat_tests, is) in
        let front = (s.holds i k h).within (place_of x) mine in
        let at = (stands mid more x behind).place in
        let c = count_after started (journal_of (seen k)) in
        let l = journal_length (seen k) in
        omega (arith, front, at, c, l)))

    -- two clients have no place in common
    one_owner : (i j : ℕ) (k m : K) (p : ℕ) → slice_get ks i ≡ Some k → slice_get ks j ≡ Some m → owns (own k) p ≡ true → owns (own m) p ≡ true → k ≡ m
    one_owner i j k m p h g a b =
        let front = (s.holds i k h).within p a in
        let long = prefix_length (seen k) last (s.fronts i k h) in
        let e = get_exists (journal_of last) p (let l = journal_length last in omega (arith, front, long, l)) in
        let x = moment_there started (journal_of last) p e.0 e.1 in
        let place : p ≡ place_of x.moment = let q = x.place in omega (arith, q) in
        let is_i = bears i k h x.moment x.among (subst (λ n. owns (own k) n ≡ true) place a) in
        let is_j = bears j m g x.moment x.among (subst (λ n. owns (own m) n ≡ true) place b) in
        one_got ks i j k m (sym is_i ∙ is_j) h g

    -- nobody else cancels a client's queries
    pub cancels : (i : ℕ) (k : K) → slice_get ks i ≡ Some k → AreCancelsOwn (own k) last
    cancels i k h p query x at is mine =
        let there : slice_get (journal_of last) p ≡ Some x.entry = entry_at last p x at in
        let y = moment_there started (journal_of last) p x.entry there in
        let place : place_of y.moment ≡ p = let q = y.place in omega (arith, q) in
        let o = owner y.moment y.among in
        let home = each_among (CancelsOwn (own o.k)) (own_of (own o.k) (seen o.k)) y.moment (s.holds o.client o.k o.there).home (own_there o.client o.k o.there y.moment y.among o.mine) in
        let theirs = home query (subst (λ (e : Entry). is_cancel_of query e.what ≡ true) (sym y.entry) is) in
        let k_is : o.k ≡ k = one_owner o.client i o.k k query o.there h theirs mine in
        subst (λ (m : K). owns (own m) p ≡ true) k_is (subst (λ n. owns (own o.k) n ≡ true) place o.mine) where
          entry_at : (xs : List Named) (n : ℕ) (z : Named) → slice_get xs n ≡ Some z → slice_get (journal_of xs) n ≡ Some z.entry
          entry_at [] n z h = absurd (none-some _ h)
          entry_at (w ∷ ws) zero z h = cc
          entry_at (w ∷ ws) (suc n) z h = entry_at ws n z h

    -- a client that is woven by what it saw is woven into the whole journal
    pub woven_client : (known : Known) (i : ℕ) (k : K) (lines : List Numbered) (c : Client) → AreNamedBy known.names last → slice_get ks i ≡ Some k
        → WovenBy known i (own k) (seen k) lines c → WovenClient known (journal_of last) i (own_moments i all_moments) lines c
    woven_client known i k lines c names h by =
        let grows = s.fronts i k h in
        let w = by (named_front known.names (seen k) last grows names) (cancels_front (own k) (seen k) last grows (cancels i k h)) in
        subst (λ (xs : List Moment). WovenClient known (journal_of last) i xs lines c) (sym (client_moments i k h)) (record {
          woven = w.woven;
          runs = subst (λ (es : List Entry). RunsTo known.limits es i c.why (drop (length c.told) lines) (ran_lines lines c.told))
              (sym (journal_append (seen k) grows.0) ∙ ap journal_of grows.1)
              (runs_later known.limits (journal_of (seen k)) (journal_of grows.0) i c.why (drop (length c.told) lines) (ran_lines lines c.told) (none_behind i k h) w.runs);
        })

    -- and all are, where each is
    pub woven_all : (known : Known) (scripts : List (List Numbered)) (rest : Rest) → AreNamedBy known.names last
        → length ks ≡ length scripts → length rest.clients ≡ length scripts
        → ((client : ℕ) (k : K) (lines : List Numbered) (c : Client) → slice_get ks client ≡ Some k → slice_get scripts client ≡ Some lines
        → slice_get rest.clients client ≡ Some c → WovenBy known client (own k) (seen k) lines c)
        → AreTooBig known.refused → ((text : List ℕ) (r : Reading) → known.readings text ≡ Some r → IsReading known.refused text r) → AreTried (journal_of last) rest
        → Weave known (journal_of last) scripts rest
    woven_all known scripts rest names many told by too_big read tried = record {
      many = told;
      each = λ client lines c a b.
          let low = slice_get_within scripts client lines a in
          let k = get_exists ks client (omega (arith, low, many)) in
          woven_client known client k.0 lines c names k.1 (by client k.0 lines c k.1 a b);
      nobody_else = subst (λ n. Each (λ e. e.client < n) (journal_of last)) many nobody_else;
      too_big = too_big;
      read = read;
      tried = tried;
    }

pub shared_weave : SharedWeave
shared_weave known parts last scripts rest share names many told by too_big read tried =
    woven_all (λ p. p.own) (λ p. p.seen) parts last share known scripts rest names many told by too_big read tried
