-- Lists of tenants: who is in one, who is left without one, and that different ones below a bound are no more than it.
use Rattle.std.proofs.Common.{◌≡◌, ◌≢◌, ◌∙◌, ℕ, zero, suc, ◌+◌, ◌≤◌, ◌<◌, Bool, true, false, not, cond, ◌||◌, eqb, List, [], ◌∷◌, ◌++◌, length, refl, sym, ap, subst, arith}
use Rattle.std.proofs.lemmas.Bool.{eq-eqb, eqb-true, eqb-false}
use Rattle.pf_queue.specs.Rings.{AreDifferent, waits, without}

neither : (a b : Bool) → (a || b) ≡ false → (a ≡ false) × (b ≡ false)
neither true b h = absurd cc
neither false b h = (refl, h)

neither_to : (a b : Bool) → a ≡ false → b ≡ false → (a || b) ≡ false
neither_to true b h k = absurd cc
neither_to false b h k = k

no_eqb : (a b : ℕ) (s : Bool) → eqb a b ≡ s → a ≢ b → eqb a b ≡ false
no_eqb a b true e h = absurd (h (eqb-true a b e))
no_eqb a b false e h = e

pub unequal : (a b : ℕ) → a ≢ b → eqb a b ≡ false
unequal a b h = no_eqb a b (eqb a b) refl h

pub never_both : (b : Bool) → b ≡ false → b ≡ true → ⊥
never_both b h k = absurd cc

-- ---- who isn't in a list

pub differs : (t u : ℕ) (us : List ℕ) → waits t (u ∷ us) ≡ false → t ≢ u
differs t u us h e = eqb-false u t (neither (eqb u t) (waits t us) h).0 (sym e)

pub not_after : (t u : ℕ) (us : List ℕ) → waits t (u ∷ us) ≡ false → waits t us ≡ false
not_after t u us h = (neither (eqb u t) (waits t us) h).1

pub not_in : (t u : ℕ) (us : List ℕ) → t ≢ u → waits t us ≡ false → waits t (u ∷ us) ≡ false
not_in t u us d h = neither_to (eqb u t) (waits t us) (unequal u t (λ e. d (sym e))) h

pub first_in : (t u : ℕ) (us : List ℕ) → u ≡ t → waits t (u ∷ us) ≡ true
first_in t u us e = ap (λ b. b || waits t us) (eq-eqb u t e)

-- who is in, is the first or after it
pub in_after : (t u : ℕ) (us : List ℕ) → eqb u t ≡ false → waits t (u ∷ us) ≡ true → waits t us ≡ true
in_after t u us e h = sym (ap (λ b. b || waits t us) e) ∙ h

-- ---- a list with one more

pub not_in_both : (t u : ℕ) (us : List ℕ) → t ≢ u → waits t us ≡ false → waits t (us ++ u ∷ []) ≡ false
not_in_both t u [] d h = not_in t u [] d refl
not_in_both t u (x ∷ us) d h = not_in t x (us ++ u ∷ []) (differs t x us h) (not_in_both t u us d (not_after t x us h))

in_front_by : (s b c : Bool) → (s || b) ≡ false → (b ≡ false → c ≡ false) → (s ≡ false) × (c ≡ false)
in_front_by true b c h k = absurd cc
in_front_by false b c h k = (refl, k h)

pub not_in_either : (t u : ℕ) (us : List ℕ) → waits t (us ++ u ∷ []) ≡ false → (t ≢ u) × (waits t us ≡ false)
not_in_either t u [] h = (differs t u [] h, refl)
not_in_either t u (x ∷ us) h =
    let r = not_in_either t u us (not_after t x (us ++ u ∷ []) h) in
    (r.0, not_in t x us (differs t x (us ++ u ∷ []) h) r.1)

pub different_with : (t : ℕ) (us : List ℕ) → AreDifferent us → waits t us ≡ false → AreDifferent (us ++ t ∷ [])
different_with t [] d h = (refl, tt)
different_with t (u ∷ us) d h =
    (not_in_both u t us (λ e. differs t u us h (sym e)) d.0, different_with t us d.1 (not_after t u us h))

-- ---- a list without one

not_in_by : (u x : ℕ) (us : List ℕ) (b : Bool) → u ≢ x → waits u us ≡ false → waits u (cond b (x ∷ us) us) ≡ false
not_in_by u x us true d k = not_in u x us d k
not_in_by u x us false d k = k

pub not_in_without : (t u : ℕ) (us : List ℕ) → waits u us ≡ false → waits u (without t us) ≡ false
not_in_without t u [] h = refl
not_in_without t u (x ∷ us) h =
    not_in_by u x (without t us) (not (eqb x t)) (differs u x us h) (not_in_without t u us (not_after u x us h))

gone_by : (t x : ℕ) (us : List ℕ) (s : Bool) → eqb x t ≡ s → waits t us ≡ false → waits t (cond (not s) (x ∷ us) us) ≡ false
gone_by t x us true e k = k
gone_by t x us false e k = not_in t x us (λ z. eqb-false x t e (sym z)) k

pub gone : (t : ℕ) (us : List ℕ) → waits t (without t us) ≡ false
gone t [] = refl
gone t (x ∷ us) = gone_by t x (without t us) (eqb x t) refl (gone t us)

all_by : (t x : ℕ) (us vs : List ℕ) (s : Bool) → s ≡ false → vs ≡ us → cond (not s) (x ∷ vs) vs ≡ x ∷ us
all_by t x us vs true e k = absurd cc
all_by t x us vs false e k = ap (λ ws. x ∷ ws) k

pub all_without : (t : ℕ) (us : List ℕ) → waits t us ≡ false → without t us ≡ us
all_without t [] h = refl
all_without t (x ∷ us) h =
    all_by t x us (without t us) (eqb x t) (neither (eqb x t) (waits t us) h).0 (all_without t us (not_after t x us h))

-- where the first is the one
pub first_out : (t : ℕ) (us : List ℕ) → AreDifferent (t ∷ us) → without t (t ∷ us) ≡ us
first_out t us d =
    ap (λ b. cond (not b) (t ∷ without t us) (without t us)) (eq-eqb t t refl) ∙ all_without t us d.0

different_by : (x : ℕ) (us : List ℕ) (b : Bool) → waits x us ≡ false → AreDifferent us → AreDifferent (cond b (x ∷ us) us)
different_by x us true h d = (h, d)
different_by x us false h d = d

pub different_without : (t : ℕ) (us : List ℕ) → AreDifferent us → AreDifferent (without t us)
different_without t [] d = tt
different_without t (x ∷ us) d =
    different_by x (without t us) (not (eqb x t)) (not_in_without t x us d.0) (different_without t us d.1)

-- who is in without another was in
pub was_in : (t u : ℕ) (us : List ℕ) (b : Bool) → waits u us ≡ b → waits u (without t us) ≡ true → waits u us ≡ true
was_in t u us true e h = e
was_in t u us false e h = absurd (never_both (waits u (without t us)) (not_in_without t u us e) h)

other_by : (t u x : ℕ) (us vs : List ℕ) (s : Bool) → eqb x t ≡ s → u ≢ t → waits u (cond (not s) (x ∷ vs) vs) ≡ false
    → (waits u vs ≡ false → waits u us ≡ false) → waits u (x ∷ us) ≡ false
other_by t u x us vs true e d h k = not_in u x us (λ z. d (z ∙ eqb-true x t e)) (k h)
other_by t u x us vs false e d h k = not_in u x us (differs u x vs h) (k (not_after u x vs h))

-- who isn't in without another wasn't in
pub was_not_in : (t u : ℕ) (us : List ℕ) → u ≢ t → waits u (without t us) ≡ false → waits u us ≡ false
was_not_in t u [] d h = refl
was_not_in t u (x ∷ us) d h = other_by t u x us (without t us) (eqb x t) refl d h (was_not_in t u us d)

-- ---- how many

less_by : (t x : ℕ) (us vs : List ℕ) (s : Bool) → length us ≤ length vs + 1 → (s ≡ true → vs ≡ us) → length (x ∷ us) ≤ length (cond (not s) (x ∷ vs) vs) + 1
less_by t x us vs true h k = omega (arith, ap length (k refl))
less_by t x us vs false h k = omega (arith, h)

one_less : (t : ℕ) (us : List ℕ) → AreDifferent us → length us ≤ length (without t us) + 1
one_less t [] d = omega arith
one_less t (x ∷ us) d =
    less_by t x us (without t us) (eqb x t) (one_less t us d.1)
    (λ e. all_without t us (subst (λ u. waits u us ≡ false) (eqb-true x t e) d.0))

pub few : (n : ℕ) (us : List ℕ) → AreDifferent us → ((t : ℕ) → waits t us ≡ true → t < n) → length us ≤ n
few zero [] d h = omega arith
few zero (x ∷ us) d h = absurd (let k = h x (first_in x x us refl) in omega (arith, k))
few (suc n) us d h =
    let rest = few n (without n us) (different_without n us d) (λ t k.
    let other : t ≢ n = λ e. never_both (waits n (without n us)) (gone n us) (subst (λ u. waits u (without n us) ≡ true) e k) in
    let below = h t (was_in n t us (waits t us) refl k) in
    omega (arith, below, other)) in
    omega (arith, rest, one_less n us d)
