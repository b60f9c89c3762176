-- Where a hand stands among others, and what is left without it. This project's own.
use Rattle.std.proofs.Common.{◌≡◌, ◌∙◌, ℕ, zero, suc, ◌+◌, ◌<◌, ◌≤◌, Bool, true, false, cond, not, ◌||◌, nat_lt, MatchOption, Option, Some, None, List, [], ◌∷◌, ◌++◌, length, get_or, refl, sym, ap, arith, position}
use Rattle.std.specs.List.{position_or_len, remove}
use Rattle.std.proofs.lemmas.Bool.Decides.{nat_tests}
use Rattle.std.proofs.lemmas.List.Quantifiers.{position-Some}
use Rattle.pf_query.specs.Jobs.{QueueData, has_hand, is_hand, without_hand}
use Rattle.pf_query.specs.declared.job.Hand.{Hand}
use Rattle.pf_query.specs.declared.job.Job.{Job}

-- the test for a hand
abbrev pub is_this : Hand → Hand → Bool
is_this h x = is_hand x h

here_by : (b c : Bool) → b ≡ true → (b || c) ≡ true
here_by true c e = refl
here_by false c e = absurd cc

first_by : (h x : Hand) (xs : List Hand) (b : Bool) → b ≡ true → cond b xs (x ∷ without_hand h xs) ≡ xs
first_by h x xs true e = refl
first_by h x xs false e = absurd cc

later_by : (h x : Hand) (xs ys : List Hand) (b : Bool) → b ≡ false → ys ≡ without_hand h xs → x ∷ ys ≡ cond b xs (x ∷ without_hand h xs)
later_by h x xs ys true e k = absurd cc
later_by h x xs ys false e k = ap (λ zs. x ∷ zs) k

passed_by : (b c d : Bool) → b ≡ false → c ≡ d → (b || c) ≡ d
passed_by true c d e k = absurd cc
passed_by false c d e k = k

-- at the first place of a hand
at_place :
    (h : Hand) (xs : List Hand) (i : ℕ) → i < length xs → is_hand (get_or xs i h) h ≡ true → ((k : ℕ) → k < i → is_hand (get_or xs k h) h ≡ false)
    → (has_hand h xs ≡ true) × (remove xs i ≡ without_hand h xs)
at_place h [] i l t before = absurd (omega (arith, l))
at_place h (x ∷ xs) zero l t before = (here_by (is_hand x h) (has_hand h xs) t, sym (first_by h x xs (is_hand x h) t))
at_place h (x ∷ xs) (suc i) l t before =
    let no : is_hand x h ≡ false = before zero (omega arith) in
    let r = at_place h xs i (omega (arith, l)) t (λ k b. before (suc k) (omega (arith, b))) in (
      passed_by (is_hand x h) (has_hand h xs) true no r.0,
      later_by h x xs (remove xs i) (is_hand x h) no r.1,
    )

-- where there is none
nowhere_by :
    (h x : Hand) (xs : List Hand) (b : Bool) → is_hand x h ≡ b → length xs + 1 ≤ cond (not b) (1 + position_or_len (is_this h) xs) 0
    → (length xs ≤ position_or_len (is_this h) xs → (has_hand h xs ≡ false) × (without_hand h xs ≡ xs))
    → (has_hand h (x ∷ xs) ≡ false) × (without_hand h (x ∷ xs) ≡ x ∷ xs)
nowhere_by h x xs true e l k = absurd (omega (arith, l))
nowhere_by h x xs false e l k =
    let r = k (omega (arith, l)) in (
      passed_by (is_hand x h) (has_hand h xs) false e r.0,
      sym (later_by h x xs xs (is_hand x h) e (sym r.1)),
    )

nowhere : (h : Hand) (xs : List Hand) → length xs ≤ position_or_len (is_this h) xs → (has_hand h xs ≡ false) × (without_hand h xs ≡ xs)
nowhere h [] l = (refl, refl)
nowhere h (x ∷ xs) l = nowhere_by h x xs (is_hand x h) refl (omega (arith, l)) (nowhere h xs)

beyond : (m n : ℕ) → nat_lt m n ≡ false → n ≤ m
beyond m n h = grind (arith, nat_tests)

past_by : (m n : ℕ) (b : Bool) → nat_lt m n ≡ b → cond b (Some m) None ≡ None → n ≤ m
past_by m n true e h = absurd cc
past_by m n false e h = beyond m n e

-- what the place of a hand tells
pub placed :
    (h : Hand) (xs : List Hand) (o : Option ℕ) → o ≡ position (is_this h) xs
    → MatchOption o ((has_hand h xs ≡ false) × (without_hand h xs ≡ xs)) (λ i. (has_hand h xs ≡ true) × (remove xs i ≡ without_hand h xs))
placed h xs None e = nowhere h xs (past_by (position_or_len (is_this h) xs) (length xs) (nat_lt (position_or_len (is_this h) xs) (length xs)) refl (sym e))
placed h xs (Some i) e =
    let p = position-Some (is_this h) xs i h (sym e) in
    at_place h xs i p.0 p.1 p.2

-- ---- a queue of these lists

abbrev pub made : List Job → List Hand → QueueData
made w h = record { waiting = w; hands = h }

pub queue_of : (w v : List Job) (h g : List Hand) → w ≡ v → h ≡ g → made w h ≡ made v g
queue_of w v h g e k = cc

-- a job put last
pub behind :
    (w : List Job) (hs : List Hand) (s : QueueData) → made w hs ≡ s → (after : List Job) (j k : Job) → after ≡ w ++ j ∷ [] → j ≡ k
    → after ≡ s.waiting ++ k ∷ []
behind w hs s v after j k e f = e ∙ ap (λ x. w ++ x ∷ []) f ∙ ap (λ x. x.waiting ++ k ∷ []) v

module _ (w : List Job) (hs : List Hand) (s : QueueData) (v : made w hs ≡ s) (seen : List Hand) (h g : Hand) (same : g ≡ h) (e : seen ≡ hs) where
  -- a hand that isn't there
  pub stays : None ≡ position (is_this g) seen → (has_hand h s.hands ≡ false) × (made s.waiting (without_hand h s.hands) ≡ s)
  stays k =
      let r = placed h hs None (k ∙ ap (λ x. position (is_this x) seen) same ∙ ap (position (is_this h)) e) in (
        ap (λ x. has_hand h x.hands) (sym v) ∙ r.0,
        ap (λ x. made x.waiting (without_hand h x.hands)) (sym v) ∙ ap (made w) r.1 ∙ v,
      )

  -- and one that is
  pub gone : (i : ℕ) → Some i ≡ position (is_this g) seen → (has_hand h s.hands ≡ true) × (remove hs i ≡ without_hand h s.hands)
  gone i k =
      let r = placed h hs (Some i) (k ∙ ap (λ x. position (is_this x) seen) same ∙ ap (position (is_this h)) e) in (
        ap (λ x. has_hand h x.hands) (sym v) ∙ r.0,
        r.1 ∙ ap (λ x. without_hand h x.hands) v,
      )
