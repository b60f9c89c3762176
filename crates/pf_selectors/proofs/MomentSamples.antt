-- The samples of a column at rising times rise.
use Rattle.std.proofs.Common.{◌≡◌, ◌<◌, ℕ, zero, suc, ℤ, true, Option, Some, None, List, [], ◌∷◌, ◌++◌, refl, ap, arith}
use Rattle.std.specs.Prelude.{int_lt, ◌&&◌, ◌<ℤ◌}
use Rattle.std.specs.Cmp.{first_so, second_so}
use Rattle.std.proofs.lemmas.Int.{ints}
use Rattle.pf_base.specs.declared.plain.Sample.{Sample}
use Rattle.pf_block.specs.Samples.{rises, rises_after}
use Rattle.pf_columns.specs.Columns.{value_in}
use Rattle.pf_model.specs.Lists.{Each}
use Rattle.pf_selectors.specs.Subqueries.{AreRising, joined_below, moment_samples, sample_at}
use Rattle.pf_selectors.specs.Times.{time_at}
use Rattle.pf_selectors.specs.declared.times.Times.{Times}

lt_is : (a b : ℤ) → a <ℤ b → int_lt a b ≡ true
lt_is a b h = grind (arith, ints)

lt_then : (a b c : ℤ) → int_lt a b ≡ true → b <ℤ c → int_lt a c ≡ true
lt_then a b c p q = grind (arith, ints)

abbrev AreBefore : ℤ → List Sample → Type 0
AreBefore t xs = Each (λ x. int_lt x.time t ≡ true) xs

before_more : (t u : ℤ) (xs : List Sample) → t <ℤ u → AreBefore t xs → AreBefore u xs
before_more t u [] h b = tt
before_more t u (x ∷ xs) h b = (lt_then x.time t u b.0 h, before_more t u xs h b.1)

before_one : (t u : ℤ) (o : Option ℤ) (xs : List Sample) → t <ℤ u → AreBefore u xs → AreBefore u (xs ++ sample_at t o)
before_one t u None [] h b = tt
before_one t u (Some v) [] h b = (lt_is t u h, tt)
before_one t u o (x ∷ xs) h b = (b.0, before_one t u o xs h b.1)

after_one : (a t : ℤ) (o : Option ℤ) (xs : List Sample) → int_lt a t ≡ true → rises_after a xs ≡ true → AreBefore t xs → rises_after a (xs ++ sample_at t o) ≡ true
after_one a t None [] l r b = refl
after_one a t (Some v) [] l r b = ap (λ c. c && true) l
after_one a t o (x ∷ xs) l r b =
    λ i. first_so (int_lt a x.time) (rises_after x.time xs) r i
    && after_one x.time t o xs b.0 (second_so (int_lt a x.time) (rises_after x.time xs) r) b.1 i

rises_one : (t : ℤ) (o : Option ℤ) (xs : List Sample) → rises xs ≡ true → AreBefore t xs → rises (xs ++ sample_at t o) ≡ true
rises_one t None [] r b = refl
rises_one t (Some v) [] r b = refl
rises_one t o (x ∷ xs) r b = after_one x.time t o xs b.0 r b.1

module _ (t : ℕ → ℤ) (w : ℕ → Option ℤ) where
  abbrev samples_up : ℕ → List Sample
  samples_up n = joined_below (λ j. sample_at (t j) (w j)) n

  upto : (n : ℕ) → ((j : ℕ) → suc j < suc n → t j <ℤ t (suc j)) → (rises (samples_up n) ≡ true) × AreBefore (t n) (samples_up n)
  upto zero h = (refl, tt)
  upto (suc n) h =
      let r = upto n (λ j l. h j (omega (arith, l))) in
      let step = h n (omega arith) in
      (rises_one (t n) (w n) (samples_up n) r.0 r.1, before_one (t n) (t (suc n)) (w n) (samples_up n) step (before_more (t n) (t (suc n)) (samples_up n) step r.1))

  all_rise : (n : ℕ) → ((j : ℕ) → suc j < n → t j <ℤ t (suc j)) → rises (samples_up n) ≡ true
  all_rise zero h = refl
  all_rise (suc n) h = let r = upto n h in rises_one (t n) (w n) (samples_up n) r.0 r.1

pub moments_rise : (at : Times) (vs : List (Option ℤ)) → AreRising at → rises (moment_samples at vs) ≡ true
moments_rise at vs h = all_rise (time_at at) (value_in vs) at.len h
