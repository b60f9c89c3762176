-- The size of a number as it is read digit by digit, with what is too large kept at the greatest size.
use Rattle.std.proofs.Common.{◌≡◌, ℕ, zero, suc, ◌+◌, ◌-◌, ◌*◌, ◌/◌, ◌^◌, ◌<◌, ◌≤◌, true, min, List, [], ◌∷◌, ◌++◌, length, take, drop, refl, ap, sym, ◌∙◌, arith, Option, Some, None, Result, Ok, length-append, inl, inr}
use Rattle.std.specs.Str.{all_ascii_digits}
use Rattle.std.specs.Char.{is_ascii_digit}
use Rattle.std.proofs.lemmas.List.{take_min, take-append-le, take_all, take-append-drop, length-drop}
use Rattle.std.specs.Prelude.{nat_lt}
use Rattle.std.proofs.lemmas.Bool.{cases_lt}
use Rattle.std.proofs.lemmas.Bool.Decides.{nat_tests}
use Rattle.std.proofs.lemmas.Nat.{pow-add}
use Rattle.std.proofs.lemmas.Grind.{common_steps}
use Rattle.std.proofs.Math.Nat.{one-le-pow, le-mul_of_pos_right, pow-suc, mul-div_cancel, div-div-eq-div-mul, zero-div}
use Rattle.std.proofs.Math.Seq.{take-append-add}
use Rattle.pf_base.specs.NumberTexts.{number_after, fraction_digits, raised, lowered, Exponent}
use Rattle.pf_base.specs.NumberScans.{capped, placed, sizes, with_digits, tens_of, decimal_of, exponent_of, digits_in_front, past_digits, fraction_in_front, past_fraction}
use Rattle.pf_base.specs.declared.number.Tens.{Tens}
use Rattle.pf_base.specs.declared.number.BadNumber.{BadNumber}
use Rattle.pf_base.proofs.Digits.{both, in_range, number_append}

some_ten : (k : ℕ) → 1 ≤ 10 ^ k
some_ten k = one-le-pow k 10 (omega arith)

capped_mul : (a p : ℕ) → 1 ≤ p → capped (capped a * p) ≡ capped (a * p)
capped_mul a p h = elim (cases_lt 1000000000000000000 a) [
  | inl more ↦
      let e : capped a ≡ 1000000000000000000 = omega arith in
      let low : a ≤ a * p = le-mul_of_pos_right a (omega arith) in
      ap (λ x. capped (x * p)) e ∙ omega arith
  | inr less ↦ ap (λ x. capped (x * p)) (omega arith)
]

-- a step over one zero
pub zero_step : (s z r : ℕ) → 0 < z → r ≡ min (s * 10) 1000000000000000000 → capped (r * 10 ^ (z - 1)) ≡ capped (s * 10 ^ z)
zero_step s z r h e =
    let m : suc (z - 1) ≡ z = omega arith in
    let p : 10 ^ z ≡ 10 ^ (z - 1) * 10 = ap (λ n. 10 ^ n) (sym m) ∙ pow-suc 10 (z - 1) in
    let q : s * 10 * 10 ^ (z - 1) ≡ s * (10 ^ (z - 1) * 10) = omega arith in
    ap (λ x. capped (x * 10 ^ (z - 1))) e ∙ capped_mul (s * 10) (10 ^ (z - 1)) (some_ten (z - 1)) ∙ ap capped (q ∙ ap (λ x. s * x) (sym p))

pub at_most : (s z n : ℕ) → s ≤ 1000000000000000000 → 1000000000000000000 ≤ s → capped (s * 10 ^ z) ≡ n → s ≡ n
at_most s z n low high e =
    let one = some_ten z in
    let grows : s ≤ s * 10 ^ z = le-mul_of_pos_right s (omega arith) in
    omega arith

pub take_digits : (ds : List ℕ) (n : ℕ) → all_ascii_digits ds ≡ true → all_ascii_digits (take n ds) ≡ true
take_digits [] zero h = refl
take_digits [] (suc n) h = refl
take_digits (d ∷ ds) zero h = refl
take_digits (d ∷ ds) (suc n) h =
    let t = both (is_ascii_digit d) (all_ascii_digits ds) h in
    let e = t.0 in
    rw e (take_digits ds n t.1)

after_capped : (x y : ℕ) (ds : List ℕ) → capped x ≡ capped y → capped (number_after x ds) ≡ capped (number_after y ds)
after_capped x y [] h = h
after_capped x y (d ∷ ds) h = after_capped (x * 10 + (d - 48)) (y * 10 + (d - 48)) ds (omega arith)

take_both : (xs ys : List ℕ) (p : ℕ) → take p (xs ++ ys) ≡ take (min p (length xs)) xs ++ take (min (p - min p (length xs)) (length ys)) ys
take_both xs ys p = elim (cases_lt p (length xs)) [
  | inl less ↦
      let e : min p (length xs) ≡ p = omega arith in
      let z : min (p - min p (length xs)) (length ys) ≡ 0 = omega arith in
      take-append-le p xs ys (omega arith) ∙ grind (arith, common_steps)
  | inr more ↦
      let e : length xs + (p - length xs) ≡ p = omega arith in
      let f : min p (length xs) ≡ length xs = omega arith in
      ap (λ n. take n (xs ++ ys)) (sym e) ∙ take-append-add xs ys (p - length xs)
      ∙ sym (ap (λ n. take n xs ++ take (min (p - n) (length ys)) ys) f ∙ ap (λ l. l ++ take (min (p - length xs) (length ys)) ys) (take_all (length xs) xs (omega arith)) ∙ ap (λ l. xs ++ l) (take_min (p - length xs) ys))
]

pub placed_is : (xs ys : List ℕ) (p f s b t r : ℕ)
    → f ≡ min p (length xs) → s ≡ capped (number_after 0 (take f xs)) → b ≡ min (p - f) (length ys) → t ≡ capped (number_after s (take b ys))
    → r ≡ capped (t * 10 ^ (p - f - b)) → r ≡ capped (placed (xs ++ ys) p)
placed_is xs ys p f s b t r ef es eb et er =
    let joined : number_after 0 (take f xs ++ take b ys) ≡ number_after (number_after 0 (take f xs)) (take b ys) = number_append 0 (take f xs) (take b ys) in
    let whole : take p (xs ++ ys) ≡ take f xs ++ take b ys = take_both xs ys p ∙ ap (λ n. take n xs ++ take (min (p - n) (length ys)) ys) (sym ef) ∙ ap (λ n. take f xs ++ take n ys) (sym eb) in
    let value : t ≡ capped (number_after 0 (take p (xs ++ ys))) =
    et ∙ after_capped s (number_after 0 (take f xs)) (take b ys) (omega arith) ∙ ap capped (sym joined ∙ ap (number_after 0) (sym whole)) in
    let long = length-append xs ys in
    let places : p - f - b ≡ p - length (xs ++ ys) = omega arith in
    er ∙ ap (λ n. capped (n * 10 ^ (p - f - b))) value ∙ capped_mul (number_after 0 (take p (xs ++ ys))) (10 ^ (p - f - b)) (some_ten (p - f - b))
    ∙ ap (λ n. capped (number_after 0 (take p (xs ++ ys)) * 10 ^ n)) places

-- digits behind a number, divided away
divided : (n : ℕ) (ds : List ℕ) → all_ascii_digits ds ≡ true → number_after n ds / 10 ^ length ds ≡ n
divided n [] h = omega arith
divided n (d ∷ ds) h =
    let t = both (is_ascii_digit d) (all_ascii_digits ds) h in
    let range = in_range d t.0 in
    let inner = divided (n * 10 + (d - 48)) ds t.1 in
    let p : 10 ^ length (d ∷ ds) ≡ 10 ^ length ds * 10 = pow-suc 10 (length ds) in
    ap (λ q. number_after (n * 10 + (d - 48)) ds / q) p ∙ sym (div-div-eq-div-mul (number_after (n * 10 + (d - 48)) ds) (10 ^ length ds) 10) ∙ ap (λ x. x / 10) inner ∙ omega arith

all_drop : (ds : List ℕ) (n : ℕ) → all_ascii_digits ds ≡ true → all_ascii_digits (drop n ds) ≡ true
all_drop [] zero h = refl
all_drop [] (suc n) h = refl
all_drop (d ∷ ds) zero h = h
all_drop (d ∷ ds) (suc n) h = all_drop ds n (both (is_ascii_digit d) (all_ascii_digits ds) h).1

-- the first m of n digits are what is left when n - m tens are divided away
front_of : (ds : List ℕ) (m r : ℕ) → all_ascii_digits ds ≡ true → m + r ≡ length ds → number_after 0 ds / 10 ^ r ≡ number_after 0 (take m ds)
front_of ds m r h e =
    let cut = take-append-drop m ds in
    let long : r ≡ length (drop m ds) = omega (arith, length-drop m ds) in
    let value : number_after 0 ds ≡ number_after (number_after 0 (take m ds)) (drop m ds) = ap (number_after 0) (sym cut) ∙ number_append 0 (take m ds) (drop m ds) in
    ap (λ x. x / 10 ^ r) value ∙ ap (λ k. number_after (number_after 0 (take m ds)) (drop m ds) / 10 ^ k) long ∙ divided (number_after 0 (take m ds)) (drop m ds) (all_drop ds m h)

pow_cut : (v a b : ℕ) → v * 10 ^ (a + b) / 10 ^ a ≡ v * 10 ^ b
pow_cut v a b =
    let one = some_ten a in
    let p = pow-add 10 a b in
    let q : v * (10 ^ a * 10 ^ b) ≡ v * 10 ^ b * 10 ^ a = omega arith in
    ap (λ x. v * x / 10 ^ a) p ∙ ap (λ x. x / 10 ^ a) q ∙ mul-div_cancel (v * 10 ^ b) (omega arith)

pow_left : (v a b : ℕ) → v * 10 ^ a / 10 ^ (a + b) ≡ v / 10 ^ b
pow_left v a b =
    let one = some_ten a in
    ap (λ x. v * 10 ^ a / x) (pow-add 10 a b) ∙ sym (div-div-eq-div-mul (v * 10 ^ a) (10 ^ a) (10 ^ b)) ∙ ap (λ x. x / 10 ^ b) (mul-div_cancel v (omega arith))

past_all : (ds : List ℕ) (r : ℕ) → all_ascii_digits ds ≡ true → length ds ≤ r → number_after 0 ds / 10 ^ r ≡ 0
past_all ds r h le =
    let e : length ds + (r - length ds) ≡ r = omega arith in
    let none = divided 0 ds h in
    ap (λ k. number_after 0 ds / 10 ^ k) (sym e) ∙ ap (λ x. number_after 0 ds / x) (pow-add 10 (length ds) (r - length ds))
    ∙ sym (div-div-eq-div-mul (number_after 0 ds) (10 ^ length ds) (10 ^ (r - length ds))) ∙ ap (λ x. x / 10 ^ (r - length ds)) none ∙ zero-div (10 ^ (r - length ds))

pub micros_are : (ds : List ℕ) (up down m : ℕ) → all_ascii_digits ds ≡ true → m ≡ length ds + up - down
    → placed ds m ≡ number_after 0 ds * 10 ^ up / 10 ^ down
micros_are ds up down m h em = elim (cases_lt up down) [
  | inl less ↦
      let e : up + (down - up) ≡ down = omega arith in
      let z : m - length ds ≡ 0 = omega arith in
      let right : number_after 0 ds * 10 ^ up / 10 ^ down ≡ number_after 0 ds / 10 ^ (down - up) = ap (λ k. number_after 0 ds * 10 ^ up / 10 ^ k) (sym e) ∙ pow_left (number_after 0 ds) up (down - up) in
      let left : placed ds m ≡ number_after 0 (take m ds) = ap (λ k. number_after 0 (take m ds) * 10 ^ k) z ∙ omega arith in
      left ∙ short ds (down - up) m h (omega arith) ∙ sym right
  | inr more ↦
      let e : down + (up - down) ≡ up = omega arith in
      let z : m - length ds ≡ up - down = omega arith in
      ap (λ k. number_after 0 (take m ds) * 10 ^ k) z ∙ ap (λ l. number_after 0 l * 10 ^ (up - down)) (take_all m ds (omega arith))
      ∙ sym (ap (λ k. number_after 0 ds * 10 ^ k / 10 ^ down) (sym e) ∙ pow_cut (number_after 0 ds) down (up - down))
]
  where
    short : (ds : List ℕ) (r m : ℕ) → all_ascii_digits ds ≡ true → m ≡ length ds - r → number_after 0 (take m ds) ≡ number_after 0 ds / 10 ^ r
    short ds r m h em = elim (cases_lt r (length ds)) [
      | inl less ↦ sym (front_of ds m r h (omega arith))
      | inr more ↦
          let z : m ≡ 0 = omega arith in
          ap (λ k. number_after 0 (take k ds)) z ∙ take_none ds ∙ sym (past_all ds r h more)
    ]
      where
        take_none : (ds : List ℕ) → number_after 0 (take 0 ds) ≡ 0
        take_none [] = refl
        take_none (d ∷ ds) = refl

up_is : (t u : Tens) → ◌≡◌ {A = Result Tens BadNumber} (Ok t) (Ok u) → t.up ≡ u.up
up_is t u h = ap (λ x. x.up) (let e : t ≡ u = cc in e)

down_is : (t u : Tens) → ◌≡◌ {A = Result Tens BadNumber} (Ok t) (Ok u) → t.down ≡ u.down
down_is t u h = ap (λ x. x.down) (let e : t ≡ u = cc in e)

all_append : (xs ys : List ℕ) → all_ascii_digits xs ≡ true → all_ascii_digits ys ≡ true → all_ascii_digits (xs ++ ys) ≡ true
all_append [] ys hx hy = hy
all_append (x ∷ xs) ys hx hy =
    let t = both (is_ascii_digit x) (all_ascii_digits xs) hx in
    let e = t.0 in
    rw e (all_append xs ys t.1 hy)

size_is : (whole : List ℕ) (fraction : Option (List ℕ)) (e : Option (Option Exponent)) (t : Tens) (r : ℕ)
    → all_ascii_digits whole ≡ true → all_ascii_digits (fraction_digits fraction) ≡ true
    → ◌≡◌ {A = Result Tens BadNumber} (Ok t) (tens_of e) → 0 < length whole + length (fraction_digits fraction)
    → r ≡ capped (placed (whole ++ fraction_digits fraction) (length whole + 6 + t.up - t.down))
    → ◌≡◌ {A = Result ℕ BadNumber} (Ok r) (sizes (with_digits whole fraction e))
size_is whole fraction None t r hw hf et some er = absurd cc
size_is whole fraction (Some e) t r hw hf et some er =
    let u = up_is t (record { up = raised e; down = lowered e }) et in
    let d = down_is t (record { up = raised e; down = lowered e }) et in
    let long = length-append whole (fraction_digits fraction) in
    let m = micros_are (whole ++ fraction_digits fraction) (6 + raised e) (length (fraction_digits fraction) + lowered e) (length whole + 6 + t.up - t.down)
    (all_append whole (fraction_digits fraction) hw hf) (omega arith) in
    let lt : nat_lt 0 (length whole + length (fraction_digits fraction)) ≡ true = grind (arith, nat_tests) in
    rw lt (ap Ok (er ∙ ap capped m))

pub size_at : (bytes w rest f rest2 : List ℕ) (t : Tens) (p r : ℕ)
    → w ≡ digits_in_front bytes → rest ≡ past_digits bytes → f ≡ fraction_digits (fraction_in_front rest) → rest2 ≡ past_fraction rest
    → all_ascii_digits w ≡ true → all_ascii_digits f ≡ true
    → ◌≡◌ {A = Result Tens BadNumber} (Ok t) (tens_of (exponent_of rest2)) → (length w + length f ≡ 0 → ⊥)
    → p ≡ length w + 6 + t.up - t.down → r ≡ capped (placed (w ++ f) p)
    → ◌≡◌ {A = Result ℕ BadNumber} (Ok r) (sizes (decimal_of bytes))
size_at bytes w rest f rest2 t p r ew er ef er2 hw hf et some ep ee =
    let ef2 : f ≡ fraction_digits (fraction_in_front (past_digits bytes)) = ef ∙ ap (λ x. fraction_digits (fraction_in_front x)) er in
    let e2 : rest2 ≡ past_fraction (past_digits bytes) = er2 ∙ ap past_fraction er in
    let et2 : ◌≡◌ {A = Result Tens BadNumber} (Ok t) (tens_of (exponent_of (past_fraction (past_digits bytes)))) = et ∙ ap (λ x. tens_of (exponent_of x)) e2 in
    let lw = ap length ew in
    let lf = ap length ef2 in
    let ee2 : r ≡ capped (placed (digits_in_front bytes ++ fraction_digits (fraction_in_front (past_digits bytes))) (length (digits_in_front bytes) + 6 + t.up - t.down)) =
    ee ∙ ap (λ k. capped (placed (w ++ f) k)) (ep ∙ ap (λ k. k + 6 + t.up - t.down) lw) ∙ ap (λ x. capped (placed (x ++ f) (length (digits_in_front bytes) + 6 + t.up - t.down))) ew
    ∙ ap (λ x. capped (placed (digits_in_front bytes ++ x) (length (digits_in_front bytes) + 6 + t.up - t.down))) ef2 in
    size_is (digits_in_front bytes) (fraction_in_front (past_digits bytes)) (exponent_of (past_fraction (past_digits bytes))) t r
    (ap all_ascii_digits (sym ew) ∙ hw) (ap all_ascii_digits (sym ef2) ∙ hf) et2 (omega arith) ee2
