-- Places that are a ring, and those that stay one.
use Rattle.std.proofs.Common.{◌≡◌, ◌≢◌, ◌∙◌, ℕ, zero, suc, ◌+◌, ◌≤◌, ◌<◌, Bool, true, false, not, eqb, Some, List, [], ◌∷◌, ◌++◌, length, length-append, drop, refl, sym, ap, subst, arith}
use Rattle.std.proofs.lemmas.Bool.{eqb-true, eqb-false}
use Rattle.std.proofs.lemmas.List.{get_or-set_same, get_or-set_other}
use Rattle.std.proofs.Math.ListN.{length-set}
use Rattle.std.specs.Prelude.{slice_set, slice_get}
use Rattle.pf_queue.specs.Links.{IsRing, at, next_with, next_without, previous_with, previous_without, waiting_of}
use Rattle.pf_queue.specs.Rings.{MayWait, RingData, waits, without}
use Rattle.pf_queue.proofs.Chains.{added, back, last_differs, moves, previous_differs, taken, walk_is}
use Rattle.pf_queue.proofs.Lists.{different_with, different_without, few, first_in, first_out, never_both, not_in, not_in_both, not_in_either, all_without, gone, was_in, was_not_in}

-- ---- places

set_within : (us : List ℕ) (i x e : ℕ) → ((u : ℕ) → at us u ≤ e) → x ≤ e → (u : ℕ) → at (slice_set us i x) u ≤ e
set_within [] i x e h k u = h u
set_within (y ∷ us) zero x e h k zero = k
set_within (y ∷ us) zero x e h k (suc u) = h (suc u)
set_within (y ∷ us) (suc i) x e h k zero = h zero
set_within (y ∷ us) (suc i) x e h k (suc u) = set_within us i x e (λ v. h (suc v)) k u

pub push_within : (us : List ℕ) (x e : ℕ) → ((u : ℕ) → at us u ≤ e) → x ≤ e → (u : ℕ) → at (us ++ x ∷ []) u ≤ e
push_within [] x e h k zero = k
push_within [] x e h k (suc u) = omega arith
push_within (y ∷ us) x e h k zero = h zero
push_within (y ∷ us) x e h k (suc u) = push_within us x e (λ v. h (suc v)) k u

pub push_before : (us : List ℕ) (x u : ℕ) → u < length us → at (us ++ x ∷ []) u ≡ at us u
push_before [] x u h = absurd (omega arith)
push_before (y ∷ us) x zero h = refl
push_before (y ∷ us) x (suc u) h = push_before us x u (omega arith)

pub push_at : (us : List ℕ) (x : ℕ) → at (us ++ x ∷ []) (length us) ≡ x
push_at [] x = refl
push_at (y ∷ us) x = push_at us x

-- ---- a ring

nobody_waits : (t : ℕ) → waits t [] ≡ true → ⊥
nobody_waits t h = absurd cc

first_waits : (t : ℕ) (us : List ℕ) → waits t (t ∷ us) ≡ true
first_waits t us = first_in t t us refl

outside_by : (next previous : List ℕ) (e : ℕ) (l : List ℕ) (b : Bool) → IsRing next previous e l → waits e l ≡ b → waits e l ≡ false
outside_by next previous e l true r h = absurd (let k = r.within e h in omega (arith, k))
outside_by next previous e l false r h = h

module _ (next previous : List ℕ) (e : ℕ) (l : List ℕ) (r : IsRing next previous e l) where
  outside : waits e l ≡ false
  outside = outside_by next previous e l (waits e l) r refl

  pub waiting_is : waiting_of next e ≡ l
  waiting_is = walk_is next (at previous) e l e e r.linked outside (few e l r.different r.within)

  -- who isn't in it isn't the place of the ends either
  not_in_places : (t : ℕ) → t < e → waits t l ≡ false → waits t (e ∷ l) ≡ false
  not_in_places t h k = not_in t e l (λ z. let n = h in absurd (omega (arith, n, z))) k

  in_by : (t : ℕ) (b : Bool) → waits t l ≡ b → t < e → at next t ≢ t → waits t l ≡ true
  in_by t true h k n = h
  in_by t false h k n = absurd (n (r.absent t k h))

  out_by : (t : ℕ) (b : Bool) → waits t l ≡ b → at next t ≡ t → waits t l ≡ false
  out_by t true h n = absurd (moves (at next) (at previous) e l e t r.linked r.different outside h (sym n))
  out_by t false h n = h

  pub is_in : (t : ℕ) → t < e → at next t ≢ t → waits t l ≡ true
  is_in t h n = in_by t (waits t l) refl h n

  pub is_out : (t : ℕ) → at next t ≡ t → waits t l ≡ false
  is_out t n = out_by t (waits t l) refl n

  far_by : (t : ℕ) (b : Bool) → waits t l ≡ b → e ≤ t → waits t l ≡ false
  far_by t true h n = absurd (let k = r.within t h in omega (arith, k, n))
  far_by t false h n = h

  pub is_far : (t : ℕ) → e ≤ t → waits t l ≡ false
  is_far t n = far_by t (waits t l) refl n

  -- ---- one taken out

  module _ (t : ℕ) (w : waits t l ≡ true) where
    apart : t ≢ at previous t
    apart z =
        moves (at next) (at previous) e l e t r.linked r.different outside w
        (sym (back (at next) (at previous) e l e t r.linked w) ∙ ap (at next) (sym z))

    inside : t < length next
    inside = let k = r.within t w in omega (arith, k, r.next_length)

    next_is : at (next_without next previous t) (at previous t) ≡ at next t
    next_is =
        get_or-set_same (slice_set next t t) (at previous t) (at next t) 0
        (omega (arith, r.previous_within t, length-set next t t, r.next_length))

    itself : at (next_without next previous t) t ≡ t
    itself =
        get_or-set_other (slice_set next t t) (at previous t) t (at next t) 0 apart ∙ get_or-set_same next t t 0 inside

    other_next : (u : ℕ) → u ≢ at previous t → u ≢ t → at (next_without next previous t) u ≡ at next u
    other_next u h k =
        get_or-set_other (slice_set next t t) (at previous t) u (at next t) 0 h ∙ get_or-set_other next t u t 0 k

    previous_is : at (previous_without next previous t) (at next t) ≡ at previous t
    previous_is = get_or-set_same previous (at next t) (at previous t) 0 (omega (arith, r.next_within t, r.previous_length))

    other_previous : (u : ℕ) → u ≢ at next t → at (previous_without next previous t) u ≡ at previous u
    other_previous u h = get_or-set_other previous (at next t) u (at previous t) 0 h

    absent_by : (u : ℕ) (s : Bool) → eqb u t ≡ s → u < e → waits u (without t l) ≡ false → at (next_without next previous t) u ≡ u
    absent_by u true s h k =
        subst (λ v. at (next_without next previous t) v ≡ v) (sym (eqb-true u t s)) itself
    absent_by u false s h k =
        let o : waits u l ≡ false = was_not_in t u l (eqb-false u t s) k in
        other_next u (previous_differs (at next) (at previous) e l e t u r.linked w (not_in_places u h o)) (eqb-false u t s)
        ∙ r.absent u h o

    pub ring_without : IsRing (next_without next previous t) (previous_without next previous t) e (without t l)
    ring_without = record {
      next_length = length-set (slice_set next t t) (at previous t) (at next t) ∙ length-set next t t ∙ r.next_length;
      previous_length = length-set previous (at next t) (at previous t) ∙ r.previous_length;
      next_within = set_within (slice_set next t t) (at previous t) (at next t) e
          (set_within next t t e r.next_within (let k = r.within t w in omega (arith, k))) (r.next_within t);
      previous_within = set_within previous (at next t) (at previous t) e r.previous_within (r.previous_within t);
      linked = taken (at next) (at (next_without next previous t)) (at previous) (at (previous_without next previous t)) t
          next_is other_next previous_is other_previous e l e r.linked w r.different outside outside;
      different = different_without t l r.different;
      within = λ u h. r.within u (was_in t u l (waits u l) refl h);
      absent = λ u h k. absent_by u (eqb u t) refl h k;
    }

  -- ---- one put last

  module _ (t : ℕ) (h : t < e) (n : waits t l ≡ false) where
    here : waits t (e ∷ l) ≡ false
    here = not_in_places t h n

    behind : at (next_with next previous e t) (at previous e) ≡ t
    behind =
        get_or-set_other (slice_set next (at previous e) t) t (at previous e) e 0
        (λ z. last_differs (at next) (at previous) e l e t r.linked here (sym z))
        ∙ get_or-set_same next (at previous e) t 0 (omega (arith, r.previous_within e, r.next_length))

    last : at (next_with next previous e t) t ≡ e
    last =
        get_or-set_same (slice_set next (at previous e) t) t e 0
        (omega (arith, h, length-set next (at previous e) t, r.next_length))

    others : (u : ℕ) → u ≢ at previous e → u ≢ t → at (next_with next previous e t) u ≡ at next u
    others u d k =
        get_or-set_other (slice_set next (at previous e) t) t u e 0 k ∙ get_or-set_other next (at previous e) u t 0 d

    before_end : at (previous_with previous e t) e ≡ t
    before_end =
        get_or-set_same (slice_set previous t (at previous e)) e t 0
        (omega (arith, length-set previous t (at previous e), r.previous_length))

    before_it : at (previous_with previous e t) t ≡ at previous e
    before_it =
        get_or-set_other (slice_set previous t (at previous e)) e t t 0 (λ z. let k = h in absurd (omega (arith, k, z)))
        ∙ get_or-set_same previous t (at previous e) 0 (omega (arith, h, r.previous_length))

    before_others : (u : ℕ) → u ≢ e → u ≢ t → at (previous_with previous e t) u ≡ at previous u
    before_others u d k =
        get_or-set_other (slice_set previous t (at previous e)) e u t 0 d ∙ get_or-set_other previous t u (at previous e) 0 k

    within_by : (u : ℕ) (s b : Bool) → eqb u t ≡ s → waits u l ≡ b → waits u (l ++ t ∷ []) ≡ true → u < e
    within_by u true b s o k = subst (λ v. v < e) (sym (eqb-true u t s)) h
    within_by u false true s o k = r.within u o
    within_by u false false s o k =
        absurd (never_both (waits u (l ++ t ∷ [])) (not_in_both u t l (eqb-false u t s) o) k)

    pub ring_with : IsRing (next_with next previous e t) (previous_with previous e t) e (l ++ t ∷ [])
    ring_with = record {
      next_length = length-set (slice_set next (at previous e) t) t e ∙ length-set next (at previous e) t ∙ r.next_length;
      previous_length = length-set (slice_set previous t (at previous e)) e t ∙ length-set previous t (at previous e) ∙ r.previous_length;
      next_within = set_within (slice_set next (at previous e) t) t e e
          (set_within next (at previous e) t e r.next_within (let k = h in omega (arith, k))) (omega arith);
      previous_within = set_within (slice_set previous t (at previous e)) e t e
          (set_within previous t (at previous e) e r.previous_within (r.previous_within e)) (let k = h in omega (arith, k));
      linked = added (at next) (at (next_with next previous e t)) (at previous) (at (previous_with previous e t)) t e
          behind last others before_end before_it before_others e l r.linked r.different outside outside here;
      different = different_with t l r.different n;
      within = λ u k. within_by u (eqb u t) (waits u l) refl refl k;
      absent = λ u k o.
          let d = not_in_either u t l o in
          others u (last_differs (at next) (at previous) e l e u r.linked (not_in_places u k d.1)) d.0 ∙ r.absent u k d.1;
    }

-- the list that the places say is the one that they are a ring of
pub ring_at : (next previous : List ℕ) (e : ℕ) (l : List ℕ) → IsRing next previous e l → IsRing next previous e (waiting_of next e)
ring_at next previous e l r = subst (IsRing next previous e) (sym (waiting_is next previous e l r)) r

-- ---- the first

pub first_none : (next previous : List ℕ) (e : ℕ) (l : List ℕ) → IsRing next previous e l → at next e ≡ e → l ≡ []
first_none next previous e [] r h = refl
first_none next previous e (t ∷ l) r h =
    absurd (never_both (waits e (t ∷ l)) (outside next previous e (t ∷ l) r)
    (subst (λ u. waits u (t ∷ l) ≡ true) (sym r.linked.0 ∙ h) (first_waits t l)))

pub first_some : (next previous : List ℕ) (e : ℕ) (l : List ℕ) → IsRing next previous e l → at next e ≢ e
    → (waits (at next e) l ≡ true) × (slice_get l 0 ≡ Some (at next e)) × (without (at next e) l ≡ drop 1 l)
first_some next previous e [] r h = absurd (h r.linked.0)
first_some next previous e (t ∷ l) r h =
    subst (λ u. (waits u (t ∷ l) ≡ true) × (slice_get (t ∷ l) 0 ≡ Some u) × (without u (t ∷ l) ≡ l)) (sym r.linked.0)
    (first_waits t l, refl, first_out t l r.different)

-- ---- no tenant waits yet

pub ring_empty :
    (next previous : List ℕ) (e : ℕ) → length next ≡ e + 1 → length previous ≡ e + 1
    → ((u : ℕ) → at next u ≤ e) → ((u : ℕ) → at previous u ≤ e) → ((u : ℕ) → u < e + 1 → at next u ≡ u) → at previous e ≡ e
    → IsRing next previous e []
ring_empty next previous e n p a b s z = record {
  next_length = n;
  previous_length = p;
  next_within = a;
  previous_within = b;
  linked = (s e (omega arith), z);
  different = tt;
  within = λ t h. absurd (nobody_waits t h);
  absent = λ t h k. s t (omega (arith, h));
}

-- the tenants from 0 on, each behind itself
pub record IsUnlinked (us : List ℕ) (n e : ℕ) : Type 0 where
  pub many : length us ≡ n
  pub below : (u : ℕ) → at us u ≤ e
  pub itself : (u : ℕ) → u < n → at us u ≡ u

pub unlinked_none : (us : List ℕ) (e : ℕ) → us ≡ [] → IsUnlinked us 0 e
unlinked_none us e h = subst (λ vs. IsUnlinked vs 0 e) (sym h) (record {
  many = refl;
  below = λ u. omega arith;
  itself = λ u k. absurd (omega (arith, k));
})

itself_by : (us : List ℕ) (n e u : ℕ) (s : Bool) → eqb u n ≡ s → IsUnlinked us n e → u < n + 1 → at (us ++ n ∷ []) u ≡ u
itself_by us n e u true s k h =
    ap (at (us ++ n ∷ [])) (eqb-true u n s ∙ sym k.many) ∙ push_at us n ∙ sym (eqb-true u n s)
itself_by us n e u false s k h =
    let d : u ≢ n = eqb-false u n s in
    push_before us n u (omega (arith, h, d, k.many)) ∙ k.itself u (omega (arith, h, d))

pub unlinked_more :
    (us vs : List ℕ) (n e : ℕ) → IsUnlinked us n e → n < e + 1 → vs ≡ us ++ n ∷ [] → IsUnlinked vs (n + 1) e
unlinked_more us vs n e k h is = subst (λ ws. IsUnlinked ws (n + 1) e) (sym is) (record {
  many = omega (arith, length-append us (n ∷ []), k.many);
  below = push_within us n e k.below (omega (arith, h));
  itself = λ u l. itself_by us n e u (eqb u n) refl k l;
})

pub opened : (us vs : List ℕ) (e n : ℕ) → IsUnlinked us n e → IsUnlinked vs n e → n ≡ e + 1 → IsRing us vs e []
opened us vs e n k l h =
    ring_empty us vs e (k.many ∙ h) (l.many ∙ h) k.below l.below (λ u b. k.itself u (omega (arith, b, h))) (l.itself e (omega (arith, h)))

-- ---- what the calls leave

-- what contracts see
abbrev pub seen : List ℕ → ℕ → RingData
seen next e = record { capacity = e; waiting = waiting_of next e }

module _ (next previous : List ℕ) (e : ℕ) (r : IsRing next previous e (waiting_of next e)) (s : RingData) (v : seen next e ≡ s) where
  pub put_last :
      (after before : List ℕ) (t : ℕ) → MayWait s t → after ≡ next_with next previous e t → before ≡ previous_with previous e t
      → IsRing after before e (waiting_of after e) × (waiting_of after e ≡ s.waiting ++ t ∷ [])
  put_last after before t m a b =
      let may : MayWait (seen next e) t = subst (λ x. MayWait x t) (sym v) m in
      let ring = ring_with next previous e (waiting_of next e) r t may.known may.once in
      let is : IsRing after before e (waiting_of next e ++ t ∷ []) =
      subst (λ xs. IsRing xs before e (waiting_of next e ++ t ∷ [])) (sym a)
      (subst (λ xs. IsRing (next_with next previous e t) xs e (waiting_of next e ++ t ∷ [])) (sym b) ring) in (
        ring_at after before e (waiting_of next e ++ t ∷ []) is,
        waiting_is after before e (waiting_of next e ++ t ∷ []) is ∙ ap (λ x. x.waiting ++ t ∷ []) v,
      )

  pub taken_out :
      (after before : List ℕ) (t : ℕ) → waits t s.waiting ≡ true → after ≡ next_without next previous t → before ≡ previous_without next previous t
      → IsRing after before e (waiting_of after e) × (waiting_of after e ≡ without t s.waiting)
  taken_out after before t w a b =
      let inside : waits t (waiting_of next e) ≡ true = ap (λ x. waits t x.waiting) v ∙ w in
      let ring = ring_without next previous e (waiting_of next e) r t inside in
      let is : IsRing after before e (without t (waiting_of next e)) =
      subst (λ xs. IsRing xs before e (without t (waiting_of next e))) (sym a)
      (subst (λ xs. IsRing (next_without next previous t) xs e (without t (waiting_of next e))) (sym b) ring) in (
        ring_at after before e (without t (waiting_of next e)) is,
        waiting_is after before e (without t (waiting_of next e)) is ∙ ap (λ x. without t x.waiting) v,
      )

  -- the first one
  pub first_known :
      (t : ℕ) → t ≡ at next e → t ≢ e
      → (waits t s.waiting ≡ true) × (without t s.waiting ≡ drop 1 s.waiting) × (t < s.capacity)
  first_known t h d =
      let k = first_some next previous e (waiting_of next e) r (λ z. d (h ∙ z)) in
      let inside : waits t (waiting_of next e) ≡ true = ap (λ u. waits u (waiting_of next e)) h ∙ k.0 in (
        sym (ap (λ x. waits t x.waiting) v) ∙ inside,
        sym (ap (λ x. without t x.waiting) v) ∙ ap (λ u. without u (waiting_of next e)) h ∙ k.2 ∙ ap (λ x. drop 1 x.waiting) v,
        subst (λ x. t < x.capacity) v (r.within t inside),
      )

  value_by : (x t : ℕ) (b : Bool) → eqb x t ≡ b → t < e → x ≡ at next t → not b ≡ waits t (waiting_of next e)
  value_by x t true b h k = sym (is_out next previous e (waiting_of next e) r t (sym k ∙ eqb-true x t b))
  value_by x t false b h k = sym (is_in next previous e (waiting_of next e) r t h (λ z. eqb-false x t b (k ∙ z)))

  pub contained : (x t : ℕ) → t < e → x ≡ at next t → not (eqb x t) ≡ waits t s.waiting
  contained x t h k = value_by x t (eqb x t) refl h k ∙ ap (λ y. waits t y.waiting) v

-- and where none is left out
pub none_out : (s : RingData) (t : ℕ) (b : Bool) → b ≡ false → b ≡ waits t s.waiting → s.waiting ≡ without t s.waiting
none_out s t b h k = sym (all_without t s.waiting (sym k ∙ h))

pub free_again : (after : List ℕ) (e t : ℕ) (s : RingData) → e ≡ s.capacity → t < s.capacity → waiting_of after e ≡ without t s.waiting → MayWait (seen after e) t
free_again after e t s h k w = record {
  known = subst (λ n. t < n) (sym h) k;
  once = ap (waits t) w ∙ gone t s.waiting;
}

pub left : (after : List ℕ) (e t : ℕ) (s : RingData) → waiting_of after e ≡ without t s.waiting → waits t (waiting_of after e) ≡ false
left after e t s w = ap (waits t) w ∙ gone t s.waiting
