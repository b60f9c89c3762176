-- Jobs in hand: the one that is taken out of a list, and names of jobs. This project's own.
use Rattle.std.proofs.Common.{◌≡◌, ◌∙◌, ℕ, ◌+◌, ◌<◌, ◌≤◌, ◌⊎◌, ◌||◌, ◌&&◌, inl, inr, Bool, true, false, not, cond, nat_eq, nat_lt, List, [], ◌∷◌, refl, sym, ap, subst, arith}
use Rattle.std.proofs.lemmas.Bool.Decides.{nat_tests}
use Rattle.std.specs.Prelude.{count_by}
use Rattle.pf_base.specs.declared.plain.JobHead.{JobHead}
use Rattle.pf_model.specs.Lists.{Each}
use Rattle.pf_query.specs.Jobs.{has_hand, is_hand, is_head, is_other_hand, is_other_job, without_hand}
use Rattle.pf_query.specs.Tables.{is_named, is_of}
use Rattle.pf_query.specs.declared.job.Hand.{Hand}
use Rattle.pf_query.specs.declared.job.Job.{Job}
use Rattle.pf_query.proofs.Tallies.{bool_cases, count_cons, one_if}

-- ---- numbers

pub num_cases : (m n : ℕ) → (m ≡ n) ⊎ (m ≡ n → ⊥)
num_cases m n = elim (bool_cases (nat_eq m n)) [
  | inl t ↦ inl (grind (arith, nat_tests, t))
  | inr t ↦ inr (λ e. grind (arith, nat_tests, t, e))
]

pub num_within : (m n : ℕ) → (m < n) ⊎ (n ≤ m)
num_within m n = elim (bool_cases (nat_lt m n)) [
  | inl t ↦ inl (grind (arith, nat_tests, t))
  | inr t ↦ inr (grind (arith, nat_tests, t))
]

pub eq_same : (n : ℕ) → nat_eq n n ≡ true
eq_same n = grind (arith, nat_tests)

pub eq_apart : (m n : ℕ) → (m ≡ n → ⊥) → nat_eq m n ≡ false
eq_apart m n d = elim (bool_cases (nat_eq m n)) [
  | inl t ↦ absurd (d (grind (arith, nat_tests, t)))
  | inr t ↦ t
]

pub eq_is : (m n : ℕ) → nat_eq m n ≡ true → m ≡ n
eq_is m n t = grind (arith, nat_tests, t)

pub eq_not : (m n : ℕ) → nat_eq m n ≡ false → m ≡ n → ⊥
eq_not m n t e = grind (arith, nat_tests, t, e)

-- ---- names

pub named_other : (p n q : ℕ) (h : JobHead) → h.query ≡ q → (p ≡ q → ⊥) → is_named p n h ≡ false
named_other p n q h s d = ap (λ b. cond b (nat_eq h.job n) false) (eq_apart h.query p (λ e. d (sym e ∙ s)))

pub of_other : (p q : ℕ) (h : JobHead) → h.query ≡ q → (p ≡ q → ⊥) → is_of p h ≡ false
of_other p q h s d = eq_apart h.query p (λ e. d (sym e ∙ s))

named_by : (b : Bool) (j n : ℕ) → cond b (nat_eq j n) false ≡ true → (b ≡ true) × (j ≡ n)
named_by true j n t = (refl, eq_is j n t)
named_by false j n t = absurd cc

pub named_is : (q n : ℕ) (h : JobHead) → is_named q n h ≡ true → (h.query ≡ q) × (h.job ≡ n)
named_is q n h t = let r = named_by (nat_eq h.query q) h.job n t in (eq_is h.query q r.0, r.1)

pub named_of : (q n : ℕ) (h : JobHead) → is_named q n h ≡ true → is_of q h ≡ true
named_of q n h t = (named_by (nat_eq h.query q) h.job n t).0

-- of one job its own name
pub named_own : (q n : ℕ) (h : JobHead) → h.query ≡ q → is_named q n h ≡ nat_eq h.job n
named_own q n h s = ap (λ b. cond b (nat_eq h.job n) false) (ap (λ x. nat_eq x q) s ∙ eq_same q)

not_true : (b : Bool) → not b ≡ true → b ≡ false
not_true true t = absurd cc
not_true false t = refl

pub other_job : (q : ℕ) (j : Job) → is_other_job q j ≡ true → j.head.query ≡ q → ⊥
other_job q j t = eq_not j.head.query q (not_true (nat_eq j.head.query q) t)

pub other_hand : (q : ℕ) (h : Hand) → is_other_hand q h ≡ true → h.head.query ≡ q → ⊥
other_hand q h t = eq_not h.head.query q (not_true (nat_eq h.head.query q) t)

pub is_other : (p q n : ℕ) (h : JobHead) → (p ≡ q → ⊥) → is_named p n h ≡ true → not (nat_eq h.query q) ≡ true
is_other p q n h d t = ap not (eq_apart h.query q (λ e. d (sym (named_is p n h t).0 ∙ e)))

pub is_other_of : (p q : ℕ) (h : JobHead) → (p ≡ q → ⊥) → is_of p h ≡ true → not (nat_eq h.query q) ≡ true
is_other_of p q h d t = ap not (eq_apart h.query q (λ e. d (sym (eq_is h.query p t) ∙ e)))

-- ---- one that is the same

left : (a b : Bool) → (a && b) ≡ true → a ≡ true
left true b t = refl
left false b t = absurd cc

right : (a b : Bool) → (a && b) ≡ true → b ≡ true
right true b t = t
right false b t = absurd cc

head_with : ℕ → ℕ → ℕ → ℕ → ℕ → ℕ → ℕ → JobHead
head_with tenant query job leg first last tries =
    record { tenant = tenant; query = query; job = job; leg = leg; first = first; last = last; tries = tries }

same_heads : (a b : JobHead) → a.tenant ≡ b.tenant → a.query ≡ b.query → a.job ≡ b.job → a.leg ≡ b.leg → a.first ≡ b.first → a.last ≡ b.last → a.tries ≡ b.tries → a ≡ b
unfolding head_with
same_heads a b e1 e2 e3 e4 e5 e6 e7 =
    ap (λ x. head_with x a.query a.job a.leg a.first a.last a.tries) e1
    ∙ ap (λ x. head_with b.tenant x a.job a.leg a.first a.last a.tries) e2
    ∙ ap (λ x. head_with b.tenant b.query x a.leg a.first a.last a.tries) e3
    ∙ ap (λ x. head_with b.tenant b.query b.job x a.first a.last a.tries) e4
    ∙ ap (λ x. head_with b.tenant b.query b.job b.leg x a.last a.tries) e5
    ∙ ap (λ x. head_with b.tenant b.query b.job b.leg b.first x a.tries) e6
    ∙ ap (λ x. head_with b.tenant b.query b.job b.leg b.first b.last x) e7

head_is : (a b : JobHead) → is_head a b ≡ true → a ≡ b
head_is a b t =
    let t7 = right _ _ t in
    let s6 = left _ _ t in
    let t6 = right _ _ s6 in
    let s5 = left _ _ s6 in
    let t5 = right _ _ s5 in
    let s4 = left _ _ s5 in
    let t4 = right _ _ s4 in
    let s3 = left _ _ s4 in
    let t3 = right _ _ s3 in
    let s2 = left _ _ s3 in
    let t2 = right _ _ s2 in
    let t1 = left _ _ s2 in
    same_heads a b (eq_is _ _ t1) (eq_is _ _ t2) (eq_is _ _ t3) (eq_is _ _ t4) (eq_is _ _ t5) (eq_is _ _ t6) (eq_is _ _ t7)

hand_with : JobHead → ℕ → Hand
hand_with head actor = record { head = head; actor = actor }

pub hand_is : (x h : Hand) → is_hand x h ≡ true → x ≡ h
unfolding hand_with
hand_is x h t =
    ap (λ y. hand_with y x.actor) (head_is x.head h.head (left _ _ t)) ∙ ap (λ y. hand_with h.head y) (eq_is _ _ (right _ _ t))

-- ---- a list of hands, and without one

found_by : (P : Hand → Type 0) (h x : Hand) (xs : List Hand) (b : Bool) → is_hand x h ≡ b → P x → (has_hand h xs ≡ true → P h)
    → (b || has_hand h xs) ≡ true → P h
found_by P h x xs true e p k t = subst P (hand_is x h e) p
found_by P h x xs false e p k t = k t

pub find_hand : (P : Hand → Type 0) (h : Hand) (hs : List Hand) → Each P hs → has_hand h hs ≡ true → P h
find_hand P h [] a t = absurd cc
find_hand P h (x ∷ xs) a t = found_by P h x xs (is_hand x h) refl a.0 (find_hand P h xs a.1) t

without_by : (P : Hand → Type 0) (x : Hand) (xs ys : List Hand) (b : Bool) → P x → Each P xs → Each P ys → Each P (cond b xs (x ∷ ys))
without_by P x xs ys true p a k = a
without_by P x xs ys false p a k = (p, k)

pub each_without : (P : Hand → Type 0) (h : Hand) (hs : List Hand) → Each P hs → Each P (without_hand h hs)
each_without P h [] a = tt
each_without P h (x ∷ xs) a = without_by P x xs (without_hand h xs) (is_hand x h) a.0 a.1 (each_without P h xs a.1)

absent_by : (h x : Hand) (xs ys : List Hand) (b c : Bool) → (b || c) ≡ false → (c ≡ false → ys ≡ xs) → cond b xs (x ∷ ys) ≡ x ∷ xs
absent_by h x xs ys true c t k = absurd cc
absent_by h x xs ys false c t k = ap (λ zs. x ∷ zs) (k t)

pub without_absent : (h : Hand) (hs : List Hand) → has_hand h hs ≡ false → without_hand h hs ≡ hs
without_absent h [] t = refl
without_absent h (x ∷ xs) t = absent_by h x xs (without_hand h xs) (is_hand x h) (has_hand h xs) t (without_absent h xs)

fewer_by : (p : Hand → Bool) (h x : Hand) (xs ys : List Hand) (b : Bool) → is_hand x h ≡ b → (b || has_hand h xs) ≡ true
    → (has_hand h xs ≡ true → count_by p ys + one_if (p h) ≡ count_by p xs)
    → count_by p (cond b xs (x ∷ ys)) + one_if (p h) ≡ count_by p (x ∷ xs)
fewer_by p h x xs ys true e t k =
    let a = count_cons p x xs in
    let s : one_if (p x) ≡ one_if (p h) = ap (λ y. one_if (p y)) (hand_is x h e) in omega (arith, a, s)
fewer_by p h x xs ys false e t k =
    let a = count_cons p x xs in
    let b = count_cons p x ys in
    let r = k t in omega (arith, a, b, r)

-- one less
pub count_without : (p : Hand → Bool) (h : Hand) (hs : List Hand) → has_hand h hs ≡ true → count_by p (without_hand h hs) + one_if (p h) ≡ count_by p hs
count_without p h [] t = absurd cc
count_without p h (x ∷ xs) t = fewer_by p h x xs (without_hand h xs) (is_hand x h) refl t (count_without p h xs)

-- none of another kind is taken out
pub count_same : (p : Hand → Bool) (h : Hand) (hs : List Hand) → p h ≡ false → count_by p (without_hand h hs) ≡ count_by p hs
count_same p h hs f = elim (bool_cases (has_hand h hs)) [
  | inl t ↦ let a = count_without p h hs t in let z : one_if (p h) ≡ 0 = rw f refl in omega (arith, a, z)
  | inr t ↦ ap (λ xs. count_by p xs) (without_absent h hs t)
]

pub count_fewer : (p : Hand → Bool) (h : Hand) (hs : List Hand) → count_by p (without_hand h hs) ≤ count_by p hs
count_fewer p h hs = elim (bool_cases (has_hand h hs)) [
  | inl t ↦ let a = count_without p h hs t in omega (arith, a)
  | inr t ↦ let a : count_by p (without_hand h hs) ≡ count_by p hs = ap (λ xs. count_by p xs) (without_absent h hs t) in omega (arith, a)
]
