-- Values on the way between two others, and the places of ranks.
use Rattle.std.proofs.Common.{◌≡◌, ◌<◌, ◌≤◌, ◌+◌, ◌-◌, ◌*◌, ◌/◌, ◌%◌, ℕ, zero, suc, Bool, true, false, cond, ℤ, pos, negsuc, ◌+ℤ◌, ◌-ℤ◌, ◌*ℤ◌, ◌≤ℤ◌, ◌<ℤ◌, List, [], ◌∷◌, length, to_z, of_z, refl, sym, ap, ◌∙◌, subst, le-ltb, arith}
use Rattle.std.specs.Int.{w128}
use Rattle.std.proofs.lemmas.Int.{ints, fits_signed_from_abs, to_z-of_z}
use Rattle.std.proofs.Math.Nat.{div-le_of_le-mul, mul-le-mul_left, zero-div}
use Rattle.std.specs.Prelude.{int_div, int_lt, min, neg_ℤ, slice_index_or, unsigned_abs}
use Rattle.std.specs.Ordering.{int_cmp, is_gt}
use Rattle.std.specs.declared.cmp.Ordering.{Ordering}
use Rattle.std.specs.declared.cmp.Ordering.TheVariants.{Equal}
use Rattle.std.proofs.lemmas.Cmp.{int_ranked}
use Rattle.pf_base.specs.Arithmetic.{IsValue, clamp}
use Rattle.pf_base.specs.Sorting.{ins, isort}
use Rattle.pf_model.specs.Aggregation.{at_rank, quantile}
use Rattle.pf_model.specs.Micros.{one}

pub within_kept : (z : ℤ) → IsValue z → clamp z ≡ z
unfolding clamp
within_kept (pos n) h = rw (le-ltb 1000000000000000000 n (omega (arith, ints, h.1))) refl
within_kept (negsuc n) h = rw (le-ltb 999999999999999999 n (omega (arith, ints, h.0))) refl

pub lowest_is : clamp (negsuc 999999999999999999) ≡ negsuc 999999999999999999
unfolding clamp
lowest_is = refl

pub highest_is : clamp (pos 1000000000000000000) ≡ pos 1000000000000000000
unfolding clamp
highest_is = refl

-- ---- a part of a number

part_most : (k m : ℕ) → m < 1000000 → (k * m) / 1000000 ≤ k
part_most k m h =
    let most : k * m ≤ k * 1000000 = mul-le-mul_left k (omega (arith, h)) in
    div-le_of_le-mul 1000000 (omega (arith, most))

neg_quot : (x d : ℕ) → 0 < d → int_div (neg_ℤ (pos x)) (pos d) ≡ neg_ℤ (pos (x / d))
neg_quot zero d h = let none : 0 / d ≡ 0 = zero-div d in ap pos none ∙ sym (ap (λ q. neg_ℤ (pos q)) none)
neg_quot (suc x) d h = refl

minus_is : (q : ℕ) → neg_ℤ (pos q) ≡ pos 0 -ℤ pos q
minus_is zero = refl
minus_is (suc q) = omega (arith, ints)

-- the part of a number that is none or more, or less than none
part_by : (n : ℤ) (m : ℕ) → m < 1000000 → (unsigned_abs (int_div (n *ℤ pos m) (pos 1000000)) ≤ unsigned_abs n)
    × ((pos 0 ≤ℤ n → pos 0 ≤ℤ int_div (n *ℤ pos m) (pos 1000000)) × (n ≤ℤ pos 0 → int_div (n *ℤ pos m) (pos 1000000) ≤ℤ pos 0))
part_by (pos k) m h =
    let most = part_most k m h in
    (most, ((λ p. omega (arith, ints)), (λ p. omega (arith, ints, p, most))))
part_by (negsuc k) m h =
    let most = part_most (suc k) m h in
    let is : int_div (negsuc k *ℤ pos m) (pos 1000000) ≡ pos 0 -ℤ pos ((suc k * m) / 1000000) = neg_quot (suc k * m) 1000000 (omega arith) ∙ minus_is ((suc k * m) / 1000000) in
    (omega (arith, ints, is, most), ((λ p. absurd (omega (arith, ints, p))), (λ p. omega (arith, ints, is))))

pub part_abs : (n : ℤ) (m : ℕ) → m < 1000000 → unsigned_abs (int_div (n *ℤ pos m) (pos 1000000)) ≤ unsigned_abs n
part_abs n m h = (part_by n m h).0

low_or_high : (n part : ℤ) → unsigned_abs part ≤ unsigned_abs n → (pos 0 ≤ℤ n → pos 0 ≤ℤ part) → (n ≤ℤ pos 0 → part ≤ℤ pos 0)
    → (low high : ℤ) → n ≡ high -ℤ low → IsValue low → IsValue high → IsValue (low +ℤ part)
low_or_high (pos k) part a p q low high e l h =
    let over = p (omega (arith, ints)) in
    (omega (arith, ints, a, over, e, l.0, l.1, h.0, h.1), omega (arith, ints, a, over, e, l.0, l.1, h.0, h.1))
low_or_high (negsuc k) part a p q low high e l h =
    let under = q (omega (arith, ints)) in
    (omega (arith, ints, a, under, e, l.0, l.1, h.0, h.1), omega (arith, ints, a, under, e, l.0, l.1, h.0, h.1))

pub way_within : (low high : ℤ) (m : ℕ) → m < 1000000 → IsValue low → IsValue high → IsValue (low +ℤ int_div ((high -ℤ low) *ℤ pos m) (pos 1000000))
way_within low high m h l k =
    let part = part_by (high -ℤ low) m h in
    low_or_high (high -ℤ low) (int_div ((high -ℤ low) *ℤ pos m) (pos 1000000)) part.0 part.1.0 part.1.1 low high refl l k

-- the number is as it is passed on
passed : (z : ℤ) → unsigned_abs z ≤ 2000000000000000000 → to_z w128 (of_z w128 z) ≡ z
passed z h = to_z-of_z w128 z (fits_signed_from_abs w128 z (omega (arith, h)))

pub reached_within : (low high span part reached : ℤ) (m : ℕ) → m < 1000000 → IsValue low → IsValue high
    → span ≡ high -ℤ low → unsigned_abs span ≤ 2000000000000000000
    → part ≡ int_div (to_z w128 (of_z w128 span) *ℤ pos m) (pos 1000000) → unsigned_abs part ≤ 2000000000000000000
    → reached ≡ low +ℤ to_z w128 (of_z w128 part) → IsValue (to_z w128 (of_z w128 reached))
reached_within low high span part reached m h l k s sb p pb e =
    let part' : part ≡ int_div ((high -ℤ low) *ℤ pos m) (pos 1000000) = p ∙ ap (λ d. int_div (d *ℤ pos m) (pos 1000000)) (passed span sb ∙ s) in
    let within : IsValue reached = subst IsValue (sym (e ∙ ap (λ d. low +ℤ d) (passed part pb ∙ part'))) (way_within low high m h l k) in
    subst IsValue (sym (passed reached (omega (arith, ints, within.0, within.1)))) within

-- ---- ranks

pub place_most : (share n : ℕ) → share ≤ 1000000 → (share * n) / 1000000 ≤ n
place_most share n h =
    let most : n * share ≤ n * 1000000 = mul-le-mul_left n h in
    div-le_of_le-mul 1000000 (omega (arith, most))

-- ---- of no values

nil_is : (i : ℕ) → slice_index_or [] i (pos 0) ≡ pos 0
nil_is zero = refl
nil_is (suc i) = refl

zero_way : (m : ℕ) → m < 1000000 → pos 0 +ℤ int_div ((pos 0 -ℤ pos 0) *ℤ pos m) (pos 1000000) ≡ pos 0
zero_way m h = let p = part_abs (pos 0 -ℤ pos 0) m h in omega (arith, ints, p)

none_at : (rank : ℕ) → at_rank [] (pos rank) ≡ pos 0
none_at rank =
    let i = rank / 1000000 in
    let m = rank % 1000000 in
    (λ k. nil_is i k +ℤ int_div ((nil_is (min (i + 1) (0 - 1)) k -ℤ nil_is i k) *ℤ pos m) (pos 1000000)) ∙ zero_way m (omega arith)

pub of_none : (vs : List ℤ) (rank : ℕ) → length vs ≡ 0 → pos 0 ≡ at_rank vs (pos rank)
of_none [] rank h = sym (none_at rank)
of_none (v ∷ vs) rank h = absurd (omega (arith, h))

-- ---- a share of the places

length_ins_by : (R : ℤ → ℤ → Ordering) (x y : ℤ) (ys : List ℤ) (b : Bool) → length (ins R x ys) ≡ suc (length ys) → length (cond b (y ∷ ins R x ys) (x ∷ y ∷ ys)) ≡ suc (suc (length ys))
length_ins_by R x y ys true h = ap suc h
length_ins_by R x y ys false h = refl

length_ins : (R : ℤ → ℤ → Ordering) (x : ℤ) (ys : List ℤ) → length (ins R x ys) ≡ suc (length ys)
length_ins R x [] = refl
length_ins R x (y ∷ ys) = length_ins_by R x y ys (is_gt (R x y)) (length_ins R x ys)

length_isort : (R : ℤ → ℤ → Ordering) (xs : List ℤ) → length (isort R xs) ≡ length xs
length_isort R [] = refl
length_isort R (x ∷ xs) = length_ins R x (isort R xs) ∙ ap suc (length_isort R xs)

pub below_zero : (q : ℤ) (vs : List ℤ) → q <ℤ pos 0 → negsuc 999999999999999999 ≡ quantile q vs
below_zero q vs h = let t : int_lt q (pos 0) ≡ true = grind (arith, ints, h) in sym (ap (λ b. cond b (negsuc 999999999999999999) (cond (int_lt one q) (pos 1000000000000000000) (at_rank (isort int_cmp vs) (q *ℤ pos (length vs - 1))))) t)

pub above_one : (q : ℤ) (vs : List ℤ) → pos 1000000 <ℤ q → pos 1000000000000000000 ≡ quantile q vs
above_one q vs h =
    let no : int_lt q (pos 0) ≡ false = grind (arith, ints, h) in
    let yes : int_lt one q ≡ true = grind (arith, ints, h) in
    sym ((λ i. cond (no i) (negsuc 999999999999999999) (cond (yes i) (pos 1000000000000000000) (at_rank (isort int_cmp vs) (q *ℤ pos (length vs - 1))))))

pub share_is : (q : ℤ) (vs sorted : List ℤ) (share : ℕ) → q ≡ pos share → share ≤ 1000000 → sorted ≡ isort int_cmp vs → at_rank sorted (pos (share * (length sorted - 1))) ≡ quantile q vs
share_is q vs sorted share e h s =
    let no : int_lt q (pos 0) ≡ false = grind (arith, ints, e) in
    let not : int_lt one q ≡ false = grind (arith, ints, e, h) in
    ap (λ xs. at_rank xs (pos (share * (length xs - 1)))) s
    ∙ ap (λ n. at_rank (isort int_cmp vs) (pos (share * (n - 1)))) (length_isort int_cmp vs)
    ∙ ap (λ z. at_rank (isort int_cmp vs) (z *ℤ pos (length vs - 1))) (sym e)
    ∙ sym (λ i. cond (no i) (negsuc 999999999999999999) (cond (not i) (pos 1000000000000000000) (at_rank (isort int_cmp vs) (q *ℤ pos (length vs - 1)))))

-- equal in order are equal
pub value_exact : (x y : ℤ) → int_cmp x y ≡ Equal → x ≡ y
value_exact x y h = int_ranked x y Equal (sym h)
