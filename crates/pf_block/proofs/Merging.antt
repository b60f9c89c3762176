-- Two sorted blocks in one: in order, and each sample as often as in the two.
use Rattle.std.proofs.Common.{◌≡◌, ℕ, suc, ◌+◌, ℤ, Bool, true, false, cond, ◌&&◌, ◌||◌, List, [], ◌∷◌, ◌++◌, length, refl, ap, arith}
use Rattle.std.specs.Prelude.{int_le, nat_eq, nat_lt}
use Rattle.std.specs.Cmp.{first_so, second_so}
use Rattle.std.proofs.lemmas.Int.{ints}
use Rattle.std.proofs.lemmas.Bool.Decides.{nat_tests}
use Rattle.pf_base.specs.declared.plain.Sample.{Sample}
use Rattle.pf_block.specs.Blocks.{Entries, ascends, ascends_after, is_upto, merged, put_before, samples_in, same_sample, times_in}
use Rattle.pf_block.proofs.Searches.{both}

-- ---- the order of two entries

abbrev pub later : ℕ × Sample → ℕ × Sample → Bool
later a b = is_upto a b

either_upto_by : (i j : ℕ) (s t : ℤ) → (nat_lt i j || (nat_eq i j && int_le s t)) ≡ false → (nat_lt j i || (nat_eq j i && int_le t s)) ≡ true
either_upto_by i j s t h = grind (arith, ints, nat_tests)

pub either_upto : (a b : ℕ × Sample) → is_upto a b ≡ false → is_upto b a ≡ true
either_upto a b h = either_upto_by a.0 b.0 a.1.time b.1.time h

upto_trans_by : (i j k : ℕ) (s t u : ℤ) → (nat_lt i j || (nat_eq i j && int_le s t)) ≡ true → (nat_lt j k || (nat_eq j k && int_le t u)) ≡ true → (nat_lt i k || (nat_eq i k && int_le s u)) ≡ true
upto_trans_by i j k s t u h g = grind (arith, ints, nat_tests)

pub upto_trans : (a b c : ℕ × Sample) → is_upto a b ≡ true → is_upto b c ≡ true → is_upto a c ≡ true
upto_trans a b c h g = upto_trans_by a.0 b.0 c.0 a.1.time b.1.time c.1.time h g

-- ---- in order

module _ (a : ℕ × Sample) (rest : Entries → Entries) (sorted : (c : ℕ × Sample) (bs : Entries) → is_upto c a ≡ true → ascends_after a bs ≡ true → ascends_after a (rest bs) ≡ true) where
  before_after : (c : ℕ × Sample) (bs : Entries) → is_upto c a ≡ true → ascends_after a [] ≡ true → ascends_after c bs ≡ true → ascends_after c (put_before a rest bs) ≡ true
  before_after c [] h n s = both (is_upto c a) (ascends_after a (rest [])) h (sorted c [] h refl)
  before_after c (b ∷ bs) h n s =
      elim (is_upto a b) as (λ v. is_upto a b ≡ v → ascends_after c (cond v (a ∷ rest (b ∷ bs)) (b ∷ put_before a rest bs)) ≡ true) [
        | true ↦ λ e. both (is_upto c a) (ascends_after a (rest (b ∷ bs))) h (sorted c (b ∷ bs) h (both (is_upto a b) (ascends_after b bs) e (second_so (is_upto c b) (ascends_after b bs) s)))
        | false ↦ λ e. both (is_upto c b) (ascends_after b (put_before a rest bs)) (first_so (is_upto c b) (ascends_after b bs) s) (before_after b bs (either_upto a b e) refl (second_so (is_upto c b) (ascends_after b bs) s))
      ] refl

pub merged_after : (c : ℕ × Sample) (es bs : Entries) → ascends_after c es ≡ true → ascends_after c bs ≡ true → ascends_after c (merged es bs) ≡ true
merged_after c [] bs h s = s
merged_after c (a ∷ es) bs h s =
    before_after a (merged es) (λ d fs i t. merged_after a es fs (second_so (is_upto c a) (ascends_after a es) h) t) c bs (first_so (is_upto c a) (ascends_after a es) h) refl s

merged_two : (a b : ℕ × Sample) (es bs : Entries) (v : Bool) → is_upto a b ≡ v → ascends (a ∷ es) ≡ true → ascends (b ∷ bs) ≡ true → ascends (cond v (a ∷ merged es (b ∷ bs)) (b ∷ merged (a ∷ es) bs)) ≡ true
merged_two a b es bs true e h s = merged_after a es (b ∷ bs) h (both (is_upto a b) (ascends_after b bs) e s)
merged_two a b es bs false e h s = merged_after b (a ∷ es) bs (both (is_upto b a) (ascends_after a es) (either_upto a b e) h) s

pub merged_ascends : (es bs : Entries) → ascends es ≡ true → ascends bs ≡ true → ascends (merged es bs) ≡ true
merged_ascends [] bs h s = s
merged_ascends (a ∷ es) [] h s = merged_after a es [] h refl
merged_ascends (a ∷ es) (b ∷ bs) h s = merged_two a b es bs (is_upto a b) refl h s

-- ---- how often a sample is there

pub times_append : (x : Sample) (xs ys : List Sample) → times_in x (xs ++ ys) ≡ times_in x xs + times_in x ys
times_append x [] ys = omega arith
times_append x (s ∷ ss) ys = let r = times_append x ss ys in omega (arith, r)

module _ (id : ℕ) (x : Sample) where
  abbrev pub times : Entries → ℕ
  times es = times_in x (samples_in id es)

  abbrev pub once : ℕ × Sample → ℕ
  once e = cond (nat_eq id e.0) (cond (same_sample x e.1) 1 0) 0

  pub times_more : (e : ℕ × Sample) (es : Entries) → times (e ∷ es) ≡ once e + times es
  times_more e es = elim (nat_eq id e.0) as (λ v. times_in x (cond v (e.1 ∷ samples_in id es) (samples_in id es)) ≡ cond v (cond (same_sample x e.1) 1 0) 0 + times es) [ true ↦ refl | false ↦ omega arith ]

  before_times : (a : ℕ × Sample) (rest : Entries → Entries) (n : ℕ) → ((bs : Entries) → times (rest bs) ≡ n + times bs) → (bs : Entries) → times (put_before a rest bs) ≡ (once a + n) + times bs
  before_times a rest n h [] = let r = h [] in omega (arith, r, times_more a (rest []))
  before_times a rest n h (b ∷ bs) =
      elim (is_upto a b) as (λ v. times (cond v (a ∷ rest (b ∷ bs)) (b ∷ put_before a rest bs)) ≡ (once a + n) + times (b ∷ bs)) [
        | true ↦ let r = h (b ∷ bs) in omega (arith, r, times_more a (rest (b ∷ bs)))
        | false ↦ let r = before_times a rest n h bs in omega (arith, r, times_more b (put_before a rest bs), times_more b bs)
      ]

  pub merged_times : (es bs : Entries) → times (merged es bs) ≡ times es + times bs
  merged_times [] bs = omega arith
  merged_times (a ∷ es) bs = let r = before_times a (merged es) (times es) (λ fs. merged_times es fs) bs in omega (arith, r, times_more a es)

before_length : (a : ℕ × Sample) (rest : Entries → Entries) (n : ℕ) → ((bs : Entries) → length (rest bs) ≡ n + length bs) → (bs : Entries) → length (put_before a rest bs) ≡ suc n + length bs
before_length a rest n h [] = let r = h [] in omega (arith, r)
before_length a rest n h (b ∷ bs) =
    elim (is_upto a b) as (λ v. length (cond v (a ∷ rest (b ∷ bs)) (b ∷ put_before a rest bs)) ≡ suc n + length (b ∷ bs)) [
      | true ↦ let r = h (b ∷ bs) in omega (arith, r)
      | false ↦ let r = before_length a rest n h bs in omega (arith, r)
    ]

pub merged_length : (es bs : Entries) → length (merged es bs) ≡ length es + length bs
merged_length [] bs = omega arith
merged_length (a ∷ es) bs = before_length a (merged es) (length es) (λ fs. merged_length es fs) bs

-- ---- a step of a merge

pub merged_first : (a : ℕ × Sample) (es bs : Entries) → bs ≡ [] → merged (a ∷ es) bs ≡ a ∷ merged es bs
merged_first a es [] h = refl
merged_first a es (b ∷ bs) h = cc

pub merged_lesser : (a b : ℕ × Sample) (es bs : Entries) → is_upto a b ≡ true → merged (a ∷ es) (b ∷ bs) ≡ a ∷ merged es (b ∷ bs)
merged_lesser a b es bs h = ap (λ v. cond v (a ∷ merged es (b ∷ bs)) (b ∷ merged (a ∷ es) bs)) h

pub merged_greater : (a b : ℕ × Sample) (es bs : Entries) → is_upto a b ≡ false → merged (a ∷ es) (b ∷ bs) ≡ b ∷ merged (a ∷ es) bs
merged_greater a b es bs h = ap (λ v. cond v (a ∷ merged es (b ∷ bs)) (b ∷ merged (a ∷ es) bs)) h
