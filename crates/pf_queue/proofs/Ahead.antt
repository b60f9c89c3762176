-- While a tenant waits, only those before it are served, each once.
use Rattle.std.proofs.Common.{◌≡◌, ◌≢◌, ◌∙◌, ℕ, ◌+◌, ◌≤◌, Bool, true, false, not, cond, ◌||◌, ◌==◌, eqb, List, [], ◌∷◌, ◌++◌, refl, sym, ap, subst, arith}
use Rattle.std.proofs.lemmas.Bool.{eqb-true}
use Rattle.pf_queue.specs.Rings.{AreDifferent, waits, without}
use Rattle.pf_queue.specs.Turns.{Step, add, take, leave, ServesInTurn, WaitsOn, served}
use Rattle.pf_queue.proofs.Lists.{different_with, different_without, in_after, never_both, was_not_in}

-- whether u stands before t
abbrev ahead : ℕ → ℕ → List ℕ → Bool
ahead u t [] = false
ahead u t (x ∷ xs) = cond (x == t) false ((x == u) || ahead u t xs)

abbrev most : Bool → ℕ
most b = cond b 1 0

-- ---- who is ahead

ahead_waits_by : (x u t : ℕ) (xs : List ℕ) (b c : Bool) → b ≡ eqb x t → c ≡ eqb x u → cond b false (c || ahead u t xs) ≡ true
    → (ahead u t xs ≡ true → waits u xs ≡ true) → (c || waits u xs) ≡ true
ahead_waits_by x u t xs true c d e h k = absurd cc
ahead_waits_by x u t xs false true d e h k = refl
ahead_waits_by x u t xs false false d e h k = k h

ahead_waits : (u t : ℕ) (xs : List ℕ) → ahead u t xs ≡ true → waits u xs ≡ true
ahead_waits u t [] h = absurd cc
ahead_waits u t (x ∷ xs) h = ahead_waits_by x u t xs (eqb x t) (eqb x u) refl refl h (ahead_waits u t xs)

not_ahead_by : (u t : ℕ) (xs : List ℕ) (b : Bool) → ahead u t xs ≡ b → waits u xs ≡ false → ahead u t xs ≡ false
not_ahead_by u t xs true e h = absurd (never_both (waits u xs) h (ahead_waits u t xs e))
not_ahead_by u t xs false e h = e

not_ahead : (u t : ℕ) (xs : List ℕ) → waits u xs ≡ false → ahead u t xs ≡ false
not_ahead u t xs h = not_ahead_by u t xs (ahead u t xs) refl h

-- one put last is behind who waits
added_by : (x u t v : ℕ) (xs : List ℕ) (b : Bool) → eqb x t ≡ b → (b ≡ false → ahead u t (xs ++ v ∷ []) ≡ ahead u t xs)
    → cond b false (eqb x u || ahead u t (xs ++ v ∷ [])) ≡ cond b false (eqb x u || ahead u t xs)
added_by x u t v xs true e k = refl
added_by x u t v xs false e k = ap (λ c. eqb x u || c) (k refl)

ahead_added : (u t v : ℕ) (xs : List ℕ) → waits t xs ≡ true → ahead u t (xs ++ v ∷ []) ≡ ahead u t xs
ahead_added u t v [] h = absurd cc
ahead_added u t v (x ∷ xs) h = added_by x u t v xs (eqb x t) refl (λ e. ahead_added u t v xs (in_after t x xs e h))

waits_added_by : (t v x : ℕ) (xs : List ℕ) (b : Bool) → eqb x t ≡ b → (b ≡ false → waits t (xs ++ v ∷ []) ≡ true) → (b || waits t (xs ++ v ∷ [])) ≡ true
waits_added_by t v x xs true e k = refl
waits_added_by t v x xs false e k = k refl

waits_added : (t v : ℕ) (xs : List ℕ) → waits t xs ≡ true → waits t (xs ++ v ∷ []) ≡ true
waits_added t v [] h = absurd cc
waits_added t v (x ∷ xs) h = waits_added_by t v x xs (eqb x t) refl (λ e. waits_added t v xs (in_after t x xs e h))

or_right : (a b : Bool) → b ≡ true → (a || b) ≡ true
or_right true b h = refl
or_right false b h = h

or_by : (a b c : Bool) → (a || b) ≡ true → (b ≡ true → c ≡ true) → (a || c) ≡ true
or_by true b c h k = refl
or_by false b c h k = k h

left_kept : (u t x : ℕ) (xs ys : List ℕ) (b : Bool) → eqb x t ≡ b → (ahead u t ys ≡ true → ahead u t xs ≡ true)
    → ahead u t (x ∷ ys) ≡ true → cond b false (eqb x u || ahead u t xs) ≡ true
left_kept u t x xs ys true e k h = absurd (never_both (ahead u t (x ∷ ys)) (ap (λ b. cond b false (eqb x u || ahead u t ys)) e) h)
left_kept u t x xs ys false e k h =
    or_by (eqb x u) (ahead u t ys) (ahead u t xs) (sym (ap (λ b. cond b false (eqb x u || ahead u t ys)) e) ∙ h) k

-- who leaves puts nobody ahead
left_by : (x u t v : ℕ) (xs : List ℕ) (s b : Bool) → eqb x v ≡ s → eqb x t ≡ b → v ≢ t
    → (ahead u t (without v xs) ≡ true → ahead u t xs ≡ true)
    → ahead u t (cond (not s) (x ∷ without v xs) (without v xs)) ≡ true → cond b false (eqb x u || ahead u t xs) ≡ true
left_by x u t v xs true true e f d k h = absurd (d (sym (eqb-true x v e) ∙ eqb-true x t f))
left_by x u t v xs true false e f d k h = or_right (eqb x u) (ahead u t xs) (k h)
left_by x u t v xs false b e f d k h =
    left_kept u t x xs (without v xs) b f k h

ahead_left : (u t v : ℕ) (xs : List ℕ) → v ≢ t → ahead u t (without v xs) ≡ true → ahead u t xs ≡ true
ahead_left u t v [] d h = h
ahead_left u t v (x ∷ xs) d h =
    left_by x u t v xs (eqb x v) (eqb x t) refl refl d (ahead_left u t v xs d) h

less_by : (a b : Bool) → (a ≡ true → b ≡ true) → most a ≤ most b
less_by true true h = omega arith
less_by true false h = absurd (let k = h refl in cc k)
less_by false true h = omega arith
less_by false false h = omega arith

waits_left_by : (t v : ℕ) (xs : List ℕ) (b : Bool) → waits t (without v xs) ≡ b → v ≢ t → waits t xs ≡ true → waits t (without v xs) ≡ true
waits_left_by t v xs true e d h = e
waits_left_by t v xs false e d h = absurd (never_both (waits t xs) (was_not_in v t xs (λ z. d (sym z)) e) h)

-- ---- all steps

taken_by : (x u t : ℕ) (xs : List ℕ) (n : ℕ) (b c : Bool) → eqb x t ≡ b → eqb x u ≡ c → b ≡ false → waits x xs ≡ false → n ≤ most (ahead u t xs)
    → most c + n ≤ most (cond b false (c || ahead u t xs))
taken_by x u t xs n true c e f h d k = absurd cc
taken_by x u t xs n false true e f h d k =
    let none : ahead u t xs ≡ false = not_ahead u t xs (subst (λ v. waits v xs ≡ false) (eqb-true x u f) d) in
    let no_more : n ≤ 0 = subst (λ b. n ≤ most b) none k in
    omega (arith, no_more)
taken_by x u t xs n false false e f h d k = omega (arith, k)

serves : (steps : List Step) (xs : List ℕ) (t u : ℕ) → AreDifferent xs → waits t xs ≡ true → WaitsOn t steps xs → served u steps xs ≤ most (ahead u t xs)
serves [] xs t u d w h = omega arith
serves (add v ∷ steps) xs t u d w h =
    subst (λ b. served u steps (xs ++ v ∷ []) ≤ most b) (ahead_added u t v xs w)
    (serves steps (xs ++ v ∷ []) t u (different_with v xs d h.0) (waits_added t v xs w) h.1)
serves (take ∷ steps) [] t u d w h = absurd cc
serves (take ∷ steps) (x ∷ xs) t u d w h =
    taken_by x u t xs (served u steps xs) (eqb x t) (eqb x u) refl refl h.0 d.0 (serves steps xs t u d.1 (in_after t x xs h.0 w) h.1)
serves (leave v ∷ steps) xs t u d w h =
    let rest = serves steps (without v xs) t u (different_without v xs d) (waits_left_by t v xs (waits t (without v xs)) refl h.0 w) h.1 in
    let less = less_by (ahead u t (without v xs)) (ahead u t xs) (ahead_left u t v xs h.0) in
    omega (arith, rest, less)

one_by : (n : ℕ) (b : Bool) → n ≤ most b → n ≤ 1
one_by n true h = h
one_by n false h = omega (arith, h)

pub in_turn : ServesInTurn
in_turn xs steps t u d w n h = one_by (served u steps xs) (ahead u t xs) (serves steps xs t u d w h)
