-- The longest runs of those steps that are so: of steps in front that aren't, and of a run in front.
use Rattle.std.proofs.Common.{◌≡◌, ◌∙◌, ℕ, zero, suc, ◌+◌, ◌-◌, ◌*◌, ◌≤◌, ◌<◌, Bool, true, false, cond, List, [], ◌∷◌, add-one, refl, sym, ap, arith, nat_eq, eqb}
use Rattle.std.proofs.lemmas.Bool.{eq-eqb, eqb-true}
use Rattle.std.proofs.Math.Nat.{suc-mul}
use Rattle.pf_base.specs.GridLists.{GridData, times_from}
use Rattle.pf_results.specs.Runs.{one_step, runs_of, with_step}

abbrev run_data : ℕ → ℕ → ℕ → GridData
run_data start step len = record { start = start; step = step; len = len }

apart : (a b : ℕ) → a < b → nat_eq b a ≡ false
apart a b h = by (eqb b a) refl where
  by : (s : Bool) → eqb b a ≡ s → eqb b a ≡ false
  by true e = absurd (let z = eqb-true b a e in omega (arith, h, z))
  by false e = e

same : (a b : ℕ) → a ≡ b → nat_eq a b ≡ true
same a b e = eq-eqb a b e

-- the first run begins at a time or behind it
abbrev Begins : ℕ → List GridData → Type 0
Begins t [] = Unit {0}
Begins t (r ∷ rs) = t ≤ r.start

begins_with : (step t u : ℕ) (rs : List GridData) → u ≤ t → Begins u (with_step step t rs)
begins_with step t u [] h = h
begins_with step t u (r ∷ rs) h = by (nat_eq r.start (t + step)) where
  by : (b : Bool) → Begins u (cond b (run_data t step (r.len + 1) ∷ rs) (one_step step t ∷ r ∷ rs))
  by true = h
  by false = h

begins_less : (t u : ℕ) (rs : List GridData) → u ≤ t → Begins t rs → Begins u rs
begins_less t u [] h b = tt
begins_less t u (r ∷ rs) h b = omega (arith, h, b)

module _ (step : ℕ) (p : ℕ → Bool) where
  abbrev rest : ℕ → ℕ → List GridData
  rest t n = runs_of step p (times_from t step n)

  begins_by : (t : ℕ) (rs : List GridData) (b : Bool) → Begins (t + step) rs → Begins t (cond b (with_step step t rs) rs)
  begins_by t rs true h = begins_with step t t rs (omega arith)
  begins_by t rs false h = begins_less (t + step) t rs (omega arith) h

  begins : (n t : ℕ) → Begins t (rest t n)
  begins zero t = tt
  begins (suc n) t = begins_by t (rest (t + step) n) (p t) (begins n (t + step))

  apart_from : (t : ℕ) (rs : List GridData) → Begins (t + step + step) rs → 1 ≤ step → with_step step t rs ≡ one_step step t ∷ rs
  apart_from t [] b s = refl
  apart_from t (r ∷ rs) b s =
      ap (λ c. cond c (run_data t step (r.len + 1) ∷ rs) (one_step step t ∷ r ∷ rs)) (apart (t + step) r.start (omega (arith, b, s)))

  joins : (t u len : ℕ) (rs : List GridData) → u ≡ t + step → with_step step t (run_data u step len ∷ rs) ≡ run_data t step (len + 1) ∷ rs
  joins t u len rs e = ap (λ c. cond c (run_data t step (len + 1) ∷ rs) (one_step step t ∷ run_data u step len ∷ rs)) (same u (t + step) e)

  here : (t n : ℕ) → p t ≡ true → rest t (suc n) ≡ with_step step t (rest (t + step) n)
  here t n h = ap (λ c. cond c (with_step step t (rest (t + step) n)) (rest (t + step) n)) h

  past : (t n : ℕ) → p t ≡ false → rest t (suc n) ≡ rest (t + step) n
  past t n h = ap (λ c. cond c (with_step step t (rest (t + step) n)) (rest (t + step) n)) h

  later : (t k : ℕ) → t + step + k * step ≡ t + suc k * step
  later t k = omega (arith, suc-mul k step)

  -- steps in front that aren't
  pub none_front : (c n t : ℕ) → c ≤ n → ((k : ℕ) → k < c → p (t + k * step) ≡ false) → rest t n ≡ rest (t + c * step) (n - c)
  none_front zero n t h f =
      let e : t ≡ t + 0 * step = omega arith in
      let m : n ≡ n - 0 = omega arith in ap (λ u. rest u n) e ∙ ap (λ k. rest (t + 0 * step) k) m
  none_front (suc c) zero t h f = absurd (omega (arith, h))
  none_front (suc c) (suc n) t h f =
      let z : t ≡ t + 0 * step = omega arith in
      let e : t + step + c * step ≡ t + suc c * step = omega (arith, suc-mul c step) in
      let m : n - c ≡ suc n - suc c = omega arith in
      past t n (ap p z ∙ f 0 (omega arith))
      ∙ none_front c n (t + step) (omega (arith, h)) (λ k l. ap p (later t k) ∙ f (suc k) (omega (arith, l)))
      ∙ ap (λ u. rest u (n - c)) e
      ∙ ap (λ k. rest (t + suc c * step) k) m

  alone : (n t : ℕ) → 1 ≤ step → (0 < n → p (t + step) ≡ false) → with_step step t (rest (t + step) n) ≡ one_step step t ∷ rest (t + step) n
  alone zero t s f = refl
  alone (suc n) t s f =
      ap (with_step step t) (past (t + step) n (f (omega arith)))
      ∙ apart_from t (rest (t + step + step) n) (begins n (t + step + step)) s
      ∙ ap (λ (rs : List GridData). one_step step t ∷ rs) (sym (past (t + step) n (f (omega arith))))

  -- a run in front, behind which a step isn't
  pub run_front : (c n t : ℕ) → 1 ≤ step → suc c ≤ n → ((k : ℕ) → k < suc c → p (t + k * step) ≡ true) → (suc c < n → p (t + suc c * step) ≡ false)
      → rest t n ≡ run_data t step (suc c) ∷ rest (t + suc c * step) (n - suc c)
  run_front c zero t s h f g = absurd (omega (arith, h))
  run_front zero (suc n) t s h f g =
      let z : t ≡ t + 0 * step = omega arith in
      let e : t + step ≡ t + 1 * step = omega arith in
      let m : n ≡ suc n - 1 = omega arith in
      here t n (ap p z ∙ f 0 (omega arith))
      ∙ alone n t s (λ l. ap p e ∙ g (omega (arith, l)))
      ∙ ap (λ u. one_step step t ∷ rest u n) e
      ∙ ap (λ k. one_step step t ∷ rest (t + 1 * step) k) m
  run_front (suc c) (suc n) t s h f g =
      let z : t ≡ t + 0 * step = omega arith in
      let e : t + step + suc c * step ≡ t + suc (suc c) * step = omega (arith, suc-mul (suc c) step) in
      let m : n - suc c ≡ suc n - suc (suc c) = omega arith in
      here t n (ap p z ∙ f 0 (omega arith))
      ∙ ap (with_step step t)
      (run_front c n (t + step) s (omega (arith, h)) (λ k l. ap p (later t k) ∙ f (suc k) (omega (arith, l)))
      (λ l. ap p e ∙ g (omega (arith, l))))
      ∙ joins t (t + step) (suc c) (rest (t + step + suc c * step) (n - suc c)) refl
      ∙ ap (λ k. run_data t step k ∷ rest (t + step + suc c * step) (n - suc c)) (add-one (suc c))
      ∙ ap (λ u. run_data t step (suc (suc c)) ∷ rest u (n - suc c)) e
      ∙ ap (λ k. run_data t step (suc (suc c)) ∷ rest (t + suc (suc c) * step) k) m
