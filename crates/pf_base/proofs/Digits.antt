-- Digits in front of bytes, and the numbers that digits write.
use Rattle.std.proofs.Common.{◌≡◌, ℕ, zero, suc, ◌+◌, ◌-◌, ◌*◌, ◌<◌, ◌≤◌, Bool, true, false, ◌&&◌, min, List, [], ◌∷◌, ◌++◌, length, get_or, take, drop, refl, ap, sym, ◌∙◌, arith, add-one}
use Rattle.std.specs.Str.{all_ascii_digits}
use Rattle.std.specs.Char.{is_ascii_digit}
use Rattle.std.proofs.lemmas.List.{take_more}
use Rattle.std.proofs.lemmas.Bool.Decides.{nat_tests}
use Rattle.pf_base.specs.NumberTexts.{number_after}
use Rattle.pf_base.specs.NumberScans.{capped, digits_in_front, past_digits}

pub both : (x y : Bool) → (x && y) ≡ true → (x ≡ true) × (y ≡ true)
both true y h = (refl, h)
both false y h = cc

pub in_range : (b : ℕ) → is_ascii_digit b ≡ true → (48 ≤ b) × (b ≤ 57)
in_range b h = grind (arith, nat_tests)

pub digit_at : (bs : List ℕ) (i : ℕ) → all_ascii_digits bs ≡ true → i < length bs → (48 ≤ get_or bs i 0) × (get_or bs i 0 ≤ 57)
digit_at [] i h lt = absurd (omega arith)
digit_at (b ∷ bs) zero h lt = in_range b (both (is_ascii_digit b) (all_ascii_digits bs) h).0
digit_at (b ∷ bs) (suc i) h lt = digit_at bs i (both (is_ascii_digit b) (all_ascii_digits bs) h).1 (omega arith)

here : (b : ℕ) (bs : List ℕ) → is_ascii_digit b ≡ false → ([] ≡ digits_in_front (b ∷ bs)) × (b ∷ bs ≡ past_digits (b ∷ bs))
here b bs e = (rw e refl, rw e refl)

on_digit : (b : ℕ) (bs : List ℕ) → is_ascii_digit b ≡ true → (digits_in_front (b ∷ bs) ≡ b ∷ digits_in_front bs) × (past_digits (b ∷ bs) ≡ past_digits bs)
on_digit b bs e = (rw e refl, rw e refl)

pub split_here : (bs : List ℕ) (i : ℕ) → all_ascii_digits (take i bs) ≡ true → (i < length bs → is_ascii_digit (get_or bs i 0) ≡ false)
    → (take i bs ≡ digits_in_front bs) × (drop i bs ≡ past_digits bs)
split_here [] zero h n = (refl, refl)
split_here [] (suc i) h n = (refl, refl)
split_here (b ∷ bs) zero h n = here b bs (n (omega arith))
split_here (b ∷ bs) (suc i) h n =
    let t = both (is_ascii_digit b) (all_ascii_digits (take i bs)) h in
    let on = on_digit b bs t.0 in
    let rest = split_here bs i t.1 (λ lt. n (omega arith)) in
    (ap (λ x. b ∷ x) rest.0 ∙ sym on.0, rest.1 ∙ sym on.1)

pub all_more : (bs : List ℕ) (i : ℕ) → i < length bs → all_ascii_digits (take i bs) ≡ true → is_ascii_digit (get_or bs i 0) ≡ true → all_ascii_digits (take (i + 1) bs) ≡ true
all_more bs i lt h d = rw add-one (all_suc bs i lt h d)
  where
    all_suc : (bs : List ℕ) (i : ℕ) → i < length bs → all_ascii_digits (take i bs) ≡ true → is_ascii_digit (get_or bs i 0) ≡ true → all_ascii_digits (take (suc i) bs) ≡ true
    all_suc [] i lt h d = refl
    all_suc (b ∷ bs) zero lt h d = rw d refl
    all_suc (b ∷ bs) (suc i) lt h d =
        let t = both (is_ascii_digit b) (all_ascii_digits (take i bs)) h in
        let e = t.0 in
        rw e (all_suc bs i (omega arith) t.1 d)

pub number_append : (n : ℕ) (xs ys : List ℕ) → number_after n (xs ++ ys) ≡ number_after (number_after n xs) ys
number_append n [] ys = refl
number_append n (x ∷ xs) ys = number_append (n * 10 + (x - 48)) xs ys

pub number_more : (n : ℕ) (bs : List ℕ) (i : ℕ) → i < length bs → number_after n (take (i + 1) bs) ≡ number_after n (take i bs) * 10 + (get_or bs i 0 - 48)
number_more n bs i lt = ap (number_after n) (take_more bs i 0 lt) ∙ number_append n (take i bs) (get_or bs i 0 ∷ [])

pub read_step : (s x r : ℕ) (bs : List ℕ) (i : ℕ) → i < length bs → x ≡ capped (number_after s (take i bs)) → r ≡ min (x * 10 + (get_or bs i 0 - 48)) 1000000000000000000
    → r ≡ capped (number_after s (take (i + 1) bs))
read_step s x r bs i lt ex er = let m = number_more s bs i lt in omega (arith, m)

pub split_end : (bs : List ℕ) (i : ℕ) → all_ascii_digits (take i bs) ≡ true → length bs ≤ i → i ≤ length bs
    → (take (length bs) bs ≡ digits_in_front bs) × (drop (length bs) bs ≡ past_digits bs) × (all_ascii_digits (take (length bs) bs) ≡ true)
split_end bs i h low high =
    let e : length bs ≡ i = omega arith in
    let all : all_ascii_digits (take (length bs) bs) ≡ true = ap (λ n. all_ascii_digits (take n bs)) e ∙ h in
    let both_parts = split_here bs (length bs) all (λ lt. absurd (omega arith)) in
    (both_parts.0, both_parts.1, all)
