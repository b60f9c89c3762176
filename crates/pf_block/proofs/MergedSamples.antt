-- Two lists of samples in one by time.
use Rattle.std.proofs.Common.{◌≡◌, ℕ, suc, ◌+◌, ℤ, Bool, true, false, cond, List, [], ◌∷◌, ◌++◌, length, refl, sym, ap, ◌∙◌, arith}
use Rattle.std.specs.Prelude.{int_lt, int_le}
use Rattle.std.specs.List.{filter}
use Rattle.std.specs.Cmp.{first_so, second_so}
use Rattle.std.proofs.lemmas.Int.{ints}
use Rattle.pf_base.specs.declared.plain.Sample.{Sample}
use Rattle.pf_block.specs.Blocks.{same_sample, times_in}
use Rattle.pf_block.specs.Samples.{merged_samples, put_earlier, rises, rises_after}
use Rattle.pf_block.proofs.Canonical.{goes, goes_after, one_list, rises_goes, same_is}
use Rattle.pf_block.proofs.Merging.{times_append}
use Rattle.pf_block.proofs.Searches.{both, rises_behind, rises_filter, rises_lower}

-- ---- how often a sample is there

module _ (x : Sample) where
  put_times : (a : Sample) (rest : List Sample → List Sample) (n : ℕ) → ((bs : List Sample) → times_in x (rest bs) ≡ n + times_in x bs) → (bs : List Sample) → times_in x (put_earlier a rest bs) ≡ (cond (same_sample x a) 1 0 + n) + times_in x bs
  put_times a rest n h [] = let r = h [] in omega (arith, r)
  put_times a rest n h (b ∷ bs) =
      elim (int_le a.time b.time) as (λ v. times_in x (cond v (a ∷ rest (b ∷ bs)) (b ∷ put_earlier a rest bs)) ≡ (cond (same_sample x a) 1 0 + n) + times_in x (b ∷ bs)) [
        | true ↦ let r = h (b ∷ bs) in omega (arith, r)
        | false ↦ let r = put_times a rest n h bs in omega (arith, r)
      ]

  pub merged_times : (xs ys : List Sample) → times_in x (merged_samples xs ys) ≡ times_in x xs + times_in x ys
  merged_times [] ys = omega arith
  merged_times (a ∷ xs) ys = let r = put_times a (merged_samples xs) (times_in x xs) (λ zs. merged_times xs zs) ys in omega (arith, r)

  pub filter_times : (p : Sample → Bool) (xs : List Sample) → times_in x (filter p xs) ≡ cond (p x) (times_in x xs) 0
  filter_times p [] = none_by (p x) where
    none_by : (v : Bool) → ◌≡◌ {A = ℕ} 0 (cond v 0 0)
    none_by true = refl
    none_by false = refl
  filter_times p (s ∷ ss) = by (p s) (p x) (same_sample x s) refl refl refl (filter_times p ss) where
    none_more : (n : ℕ) → n ≡ 0 + n
    none_more n = omega arith

    by : (v w u : Bool) → p s ≡ v → p x ≡ w → same_sample x s ≡ u → times_in x (filter p ss) ≡ cond w (times_in x ss) 0 → times_in x (cond v (s ∷ filter p ss) (filter p ss)) ≡ cond w (cond u 1 0 + times_in x ss) 0
    by true true u e f g h = (λ i. cond (g i) 1 0 + h i)
    by false false u e f g h = h
    by true false true e f g h = let z : true ≡ false = sym e ∙ ap p (sym (same_is x s g)) ∙ f in cc
    by true false false e f g h = (λ i. cond (g i) 1 0 + h i)
    by false true true e f g h = let z : false ≡ true = sym e ∙ ap p (sym (same_is x s g)) ∙ f in cc
    by false true false e f g h = h ∙ none_more (times_in x ss)

put_length : (a : Sample) (rest : List Sample → List Sample) (n : ℕ) → ((bs : List Sample) → length (rest bs) ≡ n + length bs) → (bs : List Sample) → length (put_earlier a rest bs) ≡ suc n + length bs
put_length a rest n h [] = let r = h [] in omega (arith, r)
put_length a rest n h (b ∷ bs) =
    elim (int_le a.time b.time) as (λ v. length (cond v (a ∷ rest (b ∷ bs)) (b ∷ put_earlier a rest bs)) ≡ suc n + length (b ∷ bs)) [
      | true ↦ let r = h (b ∷ bs) in omega (arith, r)
      | false ↦ let r = put_length a rest n h bs in omega (arith, r)
    ]

pub merged_length : (xs ys : List Sample) → length (merged_samples xs ys) ≡ length xs + length ys
merged_length [] ys = omega arith
merged_length (a ∷ xs) ys = put_length a (merged_samples xs) (length xs) (λ zs. merged_length xs zs) ys

-- ---- in order

flipped : (a b : ℤ) → int_le a b ≡ false → int_le b a ≡ true
flipped a b h = grind (arith, ints)

before : (a b : ℤ) → int_lt a b ≡ true → int_le b a ≡ false
before a b h = grind (arith, ints)

le_of : (a b : ℤ) → int_lt a b ≡ true → int_le a b ≡ true
le_of a b h = grind (arith, ints)

module _ (a : Sample) (rest : List Sample → List Sample) (sorted : (bs : List Sample) → goes_after a.time bs ≡ true → goes_after a.time (rest bs) ≡ true) where
  put_goes : (c : ℤ) (bs : List Sample) → int_le c a.time ≡ true → goes_after c bs ≡ true → goes_after c (put_earlier a rest bs) ≡ true
  put_goes c [] h g = both (int_le c a.time) (goes_after a.time (rest [])) h (sorted [] refl)
  put_goes c (b ∷ bs) h g =
      let f = first_so (int_le c b.time) (goes_after b.time bs) g in
      let k = second_so (int_le c b.time) (goes_after b.time bs) g in
      elim (int_le a.time b.time) as (λ v. int_le a.time b.time ≡ v → goes_after c (cond v (a ∷ rest (b ∷ bs)) (b ∷ put_earlier a rest bs)) ≡ true) [
        | true ↦ λ e. both (int_le c a.time) (goes_after a.time (rest (b ∷ bs))) h (sorted (b ∷ bs) (both (int_le a.time b.time) (goes_after b.time bs) e k))
        | false ↦ λ e. both (int_le c b.time) (goes_after b.time (put_earlier a rest bs)) f (put_goes b.time bs (flipped a.time b.time e) k)
      ] refl

merged_after : (c : ℤ) (xs ys : List Sample) → goes_after c xs ≡ true → goes_after c ys ≡ true → goes_after c (merged_samples xs ys) ≡ true
merged_after c [] ys h g = g
merged_after c (a ∷ xs) ys h g =
    put_goes a (merged_samples xs) (λ bs k. merged_after a.time xs bs (second_so (int_le c a.time) (goes_after a.time xs) h) k) c ys (first_so (int_le c a.time) (goes_after a.time xs) h) g

merged_two : (a b : Sample) (xs ys : List Sample) (v : Bool) → int_le a.time b.time ≡ v → goes (a ∷ xs) ≡ true → goes (b ∷ ys) ≡ true → goes (cond v (a ∷ merged_samples xs (b ∷ ys)) (b ∷ merged_samples (a ∷ xs) ys)) ≡ true
merged_two a b xs ys true e h g = merged_after a.time xs (b ∷ ys) h (both (int_le a.time b.time) (goes_after b.time ys) e g)
merged_two a b xs ys false e h g = merged_after b.time (a ∷ xs) ys (both (int_le b.time a.time) (goes_after a.time xs) (flipped a.time b.time e) h) g

pub merged_goes : (xs ys : List Sample) → goes xs ≡ true → goes ys ≡ true → goes (merged_samples xs ys) ≡ true
merged_goes [] ys h g = g
merged_goes (a ∷ xs) [] h g = merged_after a.time xs [] h refl
merged_goes (a ∷ xs) (b ∷ ys) h g = merged_two a b xs ys (int_le a.time b.time) refl h g

-- ---- both lists rise where the one does

pub parts_after : (c : ℤ) (xs ys : List Sample) → rises_after c (merged_samples xs ys) ≡ true → (rises_after c xs ≡ true) × (rises_after c ys ≡ true)
parts_after c [] ys h = (refl, h)
parts_after c (a ∷ xs) [] h =
    let r = parts_after a.time xs [] (second_so (int_lt c a.time) (rises_after a.time (merged_samples xs [])) h) in
    (both (int_lt c a.time) (rises_after a.time xs) (first_so (int_lt c a.time) (rises_after a.time (merged_samples xs [])) h) r.0, refl)
parts_after c (a ∷ xs) (b ∷ ys) h = parts_by (int_le a.time b.time) (λ z. parts_after a.time xs (b ∷ ys) z) (λ z. parts_after b.time (a ∷ xs) ys z) h where
  parts_by : (v : Bool) → (rises_after a.time (merged_samples xs (b ∷ ys)) ≡ true → (rises_after a.time xs ≡ true) × (rises_after a.time (b ∷ ys) ≡ true)) →
      (rises_after b.time (merged_samples (a ∷ xs) ys) ≡ true → (rises_after b.time (a ∷ xs) ≡ true) × (rises_after b.time ys ≡ true)) →
      rises_after c (cond v (a ∷ merged_samples xs (b ∷ ys)) (b ∷ merged_samples (a ∷ xs) ys)) ≡ true → (rises_after c (a ∷ xs) ≡ true) × (rises_after c (b ∷ ys) ≡ true)
  parts_by true f g h =
      let l = first_so (int_lt c a.time) (rises_after a.time (merged_samples xs (b ∷ ys))) h in
      let r = f (second_so (int_lt c a.time) (rises_after a.time (merged_samples xs (b ∷ ys))) h) in
      (both (int_lt c a.time) (rises_after a.time xs) l r.0, rises_lower c a.time (b ∷ ys) l r.1)
  parts_by false f g h =
      let l = first_so (int_lt c b.time) (rises_after b.time (merged_samples (a ∷ xs) ys)) h in
      let r = g (second_so (int_lt c b.time) (rises_after b.time (merged_samples (a ∷ xs) ys)) h) in
      (rises_lower c b.time (a ∷ xs) l r.0, both (int_lt c b.time) (rises_after b.time ys) l r.1)

pub parts_rise : (xs ys : List Sample) → rises (merged_samples xs ys) ≡ true → (rises xs ≡ true) × (rises ys ≡ true)
parts_rise [] ys h = (refl, h)
parts_rise (a ∷ xs) [] h = let r = parts_after a.time xs [] h in (r.0, refl)
parts_rise (a ∷ xs) (b ∷ ys) h = parts_by (int_le a.time b.time) h where
  parts_by : (v : Bool) → rises (cond v (a ∷ merged_samples xs (b ∷ ys)) (b ∷ merged_samples (a ∷ xs) ys)) ≡ true → (rises (a ∷ xs) ≡ true) × (rises (b ∷ ys) ≡ true)
  parts_by true h = let r = parts_after a.time xs (b ∷ ys) h in (r.0, rises_behind a.time (b ∷ ys) r.1)
  parts_by false h = let r = parts_after b.time (a ∷ xs) ys h in (rises_behind b.time (a ∷ xs) r.0, r.1)

-- ---- one behind the other, and windows

rises_front_after : (a : ℤ) (xs ys : List Sample) → rises_after a (xs ++ ys) ≡ true → rises_after a xs ≡ true
rises_front_after a [] ys r = refl
rises_front_after a (x ∷ xs) ys r =
    both (int_lt a x.time) (rises_after x.time xs) (first_so (int_lt a x.time) (rises_after x.time (xs ++ ys)) r) (rises_front_after x.time xs ys (second_so (int_lt a x.time) (rises_after x.time (xs ++ ys)) r))

rises_front : (xs ys : List Sample) → rises (xs ++ ys) ≡ true → rises xs ≡ true
rises_front [] ys r = refl
rises_front (x ∷ xs) ys r = rises_front_after x.time xs ys r

rises_back : (xs ys : List Sample) → rises (xs ++ ys) ≡ true → rises ys ≡ true
rises_back [] ys r = r
rises_back (x ∷ xs) ys r = rises_back xs ys (rises_behind x.time (xs ++ ys) r)

pub merged_join : (xs ys : List Sample) → rises (xs ++ ys) ≡ true → merged_samples xs ys ≡ xs ++ ys
merged_join xs ys r =
    one_list (xs ++ ys) (merged_samples xs ys) r (merged_goes xs ys (rises_goes xs (rises_front xs ys r)) (rises_goes ys (rises_back xs ys r)))
    (λ x. times_append x xs ys ∙ sym (merged_times x xs ys))

pub merged_filter : (p : Sample → Bool) (xs ys : List Sample) → rises (merged_samples xs ys) ≡ true → merged_samples (filter p xs) (filter p ys) ≡ filter p (merged_samples xs ys)
merged_filter p xs ys r =
    let q = parts_rise xs ys r in
    one_list (filter p (merged_samples xs ys)) (merged_samples (filter p xs) (filter p ys)) (rises_filter p (merged_samples xs ys) r)
    (merged_goes (filter p xs) (filter p ys) (rises_goes (filter p xs) (rises_filter p xs q.0)) (rises_goes (filter p ys) (rises_filter p ys q.1)))
    (λ x. filter_times x p (merged_samples xs ys) ∙ ap (λ n. cond (p x) n 0) (merged_times x xs ys) ∙ added (p x) (times_in x xs) (times_in x ys)
    ∙ sym ((λ i. filter_times x p xs i + filter_times x p ys i)) ∙ sym (merged_times x (filter p xs) (filter p ys))) where
      added : (v : Bool) (m n : ℕ) → cond v (m + n) 0 ≡ cond v m 0 + cond v n 0
      added true m n = refl
      added false m n = refl
