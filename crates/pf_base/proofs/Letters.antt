-- The bytes before the next digit.
use Rattle.std.proofs.Common.{◌≡◌, ℕ, zero, suc, ◌+◌, ◌<◌, ◌≤◌, Bool, true, false, ◌&&◌, not, List, [], ◌∷◌, length, get_or, take, drop, refl, ap, sym, ◌∙◌, arith, add-one}
use Rattle.std.specs.Char.{is_ascii_digit}
use Rattle.pf_base.specs.DurationScans.{letters_in_front, past_letters}
use Rattle.pf_base.proofs.Digits.{both}

abbrev pub all_letters : List ℕ → Bool
all_letters [] = true
all_letters (b ∷ bs) = not (is_ascii_digit b) && all_letters bs

not_true : (x : Bool) → not x ≡ true → x ≡ false
not_true true h = cc
not_true false h = refl

pub parts_of : (b : ℕ) (bs : List ℕ) → all_letters (b ∷ bs) ≡ true → (is_ascii_digit b ≡ false) × (all_letters bs ≡ true)
parts_of b bs h = let t = both (not (is_ascii_digit b)) (all_letters bs) h in (not_true (is_ascii_digit b) t.0, t.1)

here : (b : ℕ) (bs : List ℕ) → is_ascii_digit b ≡ true → ([] ≡ letters_in_front (b ∷ bs)) × (b ∷ bs ≡ past_letters (b ∷ bs))
here b bs e = (rw e refl, rw e refl)

pub on_letter : (b : ℕ) (bs : List ℕ) → is_ascii_digit b ≡ false → (letters_in_front (b ∷ bs) ≡ b ∷ letters_in_front bs) × (past_letters (b ∷ bs) ≡ past_letters bs)
on_letter b bs e = (rw e refl, rw e refl)

pub split_here : (bs : List ℕ) (i : ℕ) → all_letters (take i bs) ≡ true → (i < length bs → is_ascii_digit (get_or bs i 0) ≡ true)
    → (take i bs ≡ letters_in_front bs) × (drop i bs ≡ past_letters bs)
split_here [] zero h n = (refl, refl)
split_here [] (suc i) h n = (refl, refl)
split_here (b ∷ bs) zero h n = here b bs (n (omega arith))
split_here (b ∷ bs) (suc i) h n =
    let t = parts_of b (take i bs) h in
    let on = on_letter b bs t.0 in
    let rest = split_here bs i t.1 (λ lt. n (omega arith)) in
    (ap (λ x. b ∷ x) rest.0 ∙ sym on.0, rest.1 ∙ sym on.1)

all_suc : (bs : List ℕ) (i : ℕ) → i < length bs → all_letters (take i bs) ≡ true → is_ascii_digit (get_or bs i 0) ≡ false → all_letters (take (suc i) bs) ≡ true
all_suc [] i lt h d = refl
all_suc (b ∷ bs) zero lt h d = rw d refl
all_suc (b ∷ bs) (suc i) lt h d =
    let t = parts_of b (take i bs) h in
    let e = t.0 in
    rw e (all_suc bs i (omega arith) t.1 d)

pub all_more : (bs : List ℕ) (i : ℕ) → i < length bs → all_letters (take i bs) ≡ true → is_ascii_digit (get_or bs i 0) ≡ false → all_letters (take (i + 1) bs) ≡ true
all_more bs i lt h d = rw add-one (all_suc bs i lt h d)

pub split_end : (bs : List ℕ) (i : ℕ) → all_letters (take i bs) ≡ true → length bs ≤ i → i ≤ length bs
    → (take (length bs) bs ≡ letters_in_front bs) × (drop (length bs) bs ≡ past_letters bs)
split_end bs i h low high =
    let e : length bs ≡ i = omega arith in
    let all : all_letters (take (length bs) bs) ≡ true = ap (λ n. all_letters (take n bs)) e ∙ h in
    split_here bs (length bs) all (λ lt. absurd (omega arith))
