-- Texts written into a buffer.
use Rattle.std.proofs.Common.{◌≡◌, ℕ, suc, ◌+◌, ◌-◌, ◌/◌, ◌%◌, ◌<◌, ◌≤◌, List, [], ◌∷◌, ◌++◌, length, take, drop, slice_set, ap, sym, ◌∙◌, arith}
use Rattle.std.specs.Fmt.{decimal}
use Rattle.std.proofs.lemmas.List.{append_assoc, drop-take, length-set, length-take, take-append-drop, take-set, take-take, take_more_set}
use Rattle.std.proofs.lemmas.Fmt.{decimal_digit, decimal_step}
use Rattle.std.proofs.Math.Seq.{drop-append-add, set-append_seam, take-append-add}
use Rattle.std.proofs.lemmas.Bool.Decides.{nat_tests}
use Rattle.pf_base.specs.NumberTexts.{fraction_text, six_digits, without_end_zeros}
use Rattle.pf_base.proofs.DigitCounts.{length_seven, seven_digits}
use Rattle.pf_base.proofs.EndZeros.{at_most_all, front_left}

length_front : (xs : List ℕ) (n m : ℕ) → n + m ≤ length xs → length (take n xs) ≡ n
length_front xs n m h = omega (arith, length-take n xs)

set_in : (old : List ℕ) (start b : ℕ) → start + 2 ≤ length old → take (start + 1) (slice_set old start b) ≡ take start old ++ b ∷ []
set_in old start b room = take_more_set old start b (omega arith)

-- one digit, over what stood at its place
pub one_in : (old : List ℕ) (start b n : ℕ) → n < 10 → start + 2 ≤ length old
    → take (start + 1) (slice_set (slice_set old start b) start (48 + n % 10)) ≡ take start old ++ decimal n
one_in old start b n small room =
    let new = slice_set old start b in
    let digit : n % 10 ≡ n = omega arith in
    set_in new start (48 + n % 10) (omega (arith, length-set old start b)) ∙ ap (λ l. l ++ (48 + n % 10) ∷ []) (take-set old start b)
    ∙ ap (λ d. take start old ++ (48 + d) ∷ []) digit ∙ ap (λ l. take start old ++ l) (sym (decimal_digit n small))

pub two_in : (old : List ℕ) (start n : ℕ) → 10 ≤ n → n < 100 → start + 2 ≤ length old
    → take (start + 1 + 1) (slice_set (slice_set old start (48 + n / 10)) (start + 1) (48 + n % 10)) ≡ take start old ++ decimal n
two_in old start n low high room =
    let new = slice_set old start (48 + n / 10) in
    let text : decimal n ≡ (48 + n / 10) ∷ (48 + n % 10) ∷ [] =
    decimal_step n low (omega arith) ∙ ap (λ l. l ++ (48 + n % 10) ∷ []) (decimal_digit (n / 10) (omega arith)) in
    take_more_set new (start + 1) (48 + n % 10) (omega (arith, length-set old start (48 + n / 10)))
    ∙ ap (λ l. l ++ (48 + n % 10) ∷ []) (set_in old start (48 + n / 10) room)
    ∙ append_assoc (take start old) ((48 + n / 10) ∷ []) ((48 + n % 10) ∷ []) ∙ ap (λ l. take start old ++ l) (sym text)

pub point_in : (new old : List ℕ) (start r n : ℕ) → n < 1000000 → start + 7 ≤ length old → r + length (decimal (1000000 + n)) ≡ start + 7
    → drop r new ≡ decimal (1000000 + n) ++ drop (start + 7) old → take r new ≡ take r old
    → take (start + 7) (slice_set new start 46) ≡ take start old ++ 46 ∷ six_digits n
point_in new old start r n h room e d t =
    let xs = take start old in
    let rest = drop (start + 7) old in
    let same : r ≡ start = omega (arith, length_seven n h) in
    let len : length xs ≡ start = length_front old start 7 room in
    let whole : new ≡ xs ++ 49 ∷ (six_digits n ++ rest) =
    sym (take-append-drop r new) ∙ ap (λ l. l ++ drop r new) (t ∙ ap (λ k. take k old) same) ∙ ap (λ l. xs ++ l) (d ∙ ap (λ l. l ++ rest) (seven_digits n h)) in
    let put : slice_set new start 46 ≡ xs ++ 46 ∷ (six_digits n ++ rest) =
    ap (λ l. slice_set l start 46) whole ∙ ap (λ k. slice_set (xs ++ 49 ∷ (six_digits n ++ rest)) k 46) (sym len) ∙ set-append_seam xs 49 (six_digits n ++ rest) 46 in
    ap (take (start + 7)) put ∙ ap (λ k. take (k + 7) (xs ++ 46 ∷ (six_digits n ++ rest))) (sym len) ∙ take-append-add xs (46 ∷ (six_digits n ++ rest)) 7

-- what stands behind the point
behind : (new old : List ℕ) (start n : ℕ) → start + 7 ≤ length old → take (start + 7) new ≡ take start old ++ 46 ∷ six_digits n
    → take (start + 7 - (start + 1)) (drop (start + 1) new) ≡ six_digits n
behind new old start n room e =
    let xs = take start old in
    let len : length xs ≡ start = length_front old start 7 room in
    let six : start + 7 - (start + 1) ≡ 6 = omega arith in
    let sum : start + 1 + 6 ≡ start + 7 = omega arith in
    ap (λ k. take k (drop (start + 1) new)) six ∙ sym (drop-take (start + 1) 6 new) ∙ ap (λ k. drop (start + 1) (take k new)) sum
    ∙ ap (drop (start + 1)) e ∙ ap (λ k. drop (k + 1) (xs ++ 46 ∷ six_digits n)) (sym len) ∙ drop-append-add xs (46 ∷ six_digits n) 1

pub fraction_within : (new old w : List ℕ) (start n : ℕ) → start + 7 ≤ length old → take (start + 7) new ≡ take start old ++ 46 ∷ six_digits n
    → w ≡ without_end_zeros (take (start + 7 - (start + 1)) (drop (start + 1) new)) → length w ≤ 6
fraction_within new old w start n room e v =
    let b = behind new old start n room e in
    omega (arith, ap length (v ∙ ap without_end_zeros b), at_most_all (six_digits n))

pub fraction_in : (new old w : List ℕ) (start n : ℕ) → (n ≡ 0 → ⊥) → start + 7 ≤ length old → take (start + 7) new ≡ take start old ++ 46 ∷ six_digits n
    → w ≡ without_end_zeros (take (start + 7 - (start + 1)) (drop (start + 1) new)) → take (start + 1 + length w) new ≡ take start old ++ fraction_text n
fraction_in new old w start n some room e v =
    let xs = take start old in
    let len : length xs ≡ start = length_front old start 7 room in
    let small = fraction_within new old w start n room e v in
    let is : w ≡ without_end_zeros (six_digits n) = v ∙ ap without_end_zeros (behind new old start n room e) in
    let sum : start + 1 + length w ≡ length xs + suc (length w) = omega (arith, len) in
    let front : take (length w) (six_digits n) ≡ w = ap (λ l. take (length l) (six_digits n)) is ∙ front_left (six_digits n) ∙ sym is in
    let text : fraction_text n ≡ 46 ∷ without_end_zeros (six_digits n) = grind (arith, nat_tests) in
    sym (take-take (start + 1 + length w) (start + 7) new (omega arith)) ∙ ap (take (start + 1 + length w)) e
    ∙ ap (λ k. take k (xs ++ 46 ∷ six_digits n)) sum ∙ take-append-add xs (46 ∷ six_digits n) (suc (length w))
    ∙ ap (λ l. xs ++ 46 ∷ l) (front ∙ is) ∙ ap (λ l. xs ++ l) (sym text)
