-- Bytes of one kind in front.
use Rattle.std.proofs.Common.{◌≡◌, ◌∙◌, ℕ, zero, suc, ◌+◌, ◌≤◌, Bool, true, false, inl, inr, List, [], ◌∷◌, length, take, drop, refl, ap, arith}
use Rattle.std.specs.List.{list_all, prefix_len}
use Rattle.std.proofs.lemmas.Bool.{and_parts, and_from}
use Rattle.pf_base.proofs.Readings.{bool_cases}
use Rattle.pf_model.specs.FirstBytes.{first_passes}

-- bytes that all pass lie in the front of those that do
pub all_within : (p : ℕ → Bool) (bytes : List ℕ) (m : ℕ) → list_all p (take m bytes) ≡ true → m ≤ length bytes → m ≤ prefix_len p bytes
all_within p bytes zero h high = omega arith
all_within p [] (suc m) h high = absurd (omega (arith, high))
all_within p (b ∷ bs) (suc m) h high =
    let parts = and_parts (p b) (list_all p (take m bs)) h in
    let e = parts.0 in
    let r = all_within p bs m parts.1 (omega (arith, high)) in
    rw e (omega (arith, r))

by_one : {A : Type 0} (f : ℕ → A) (n : ℕ) → f (1 + n) ≡ f (suc n)
by_one f n = let e : 1 + n ≡ suc n = omega arith in ap f e

-- the bytes of the front pass
pub front_passes : (p : ℕ → Bool) (bytes : List ℕ) → list_all p (take (prefix_len p bytes) bytes) ≡ true
front_passes p [] = refl
front_passes p (b ∷ bs) = elim (bool_cases (p b)) [
  | inl e ↦ rw e (by_one (λ n. list_all p (take n (b ∷ bs))) (prefix_len p bs) ∙ and_from (p b) _ e (front_passes p bs))
  | inr n ↦ rw n refl
]

-- and the one behind them does not
pub front_ends : (p : ℕ → Bool) (bytes : List ℕ) → first_passes p (drop (prefix_len p bytes) bytes) ≡ false
front_ends p [] = refl
front_ends p (b ∷ bs) = elim (bool_cases (p b)) [
  | inl e ↦ rw e (by_one (λ n. first_passes p (drop n (b ∷ bs))) (prefix_len p bs) ∙ front_ends p bs)
  | inr n ↦ rw n n
]

pub front_some : (p : ℕ → Bool) (bytes : List ℕ) → first_passes p bytes ≡ true → 1 ≤ prefix_len p bytes
front_some p [] h = cc
front_some p (b ∷ bs) h = rw h (omega arith)
