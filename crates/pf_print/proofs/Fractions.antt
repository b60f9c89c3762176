-- The digits of a fraction of a second in milliseconds.
use Rattle.std.proofs.Common.{◌≡◌, ◌∙◌, sym, refl, ap, ℕ, zero, suc, ◌+◌, ◌*◌, ◌/◌, ◌%◌, ◌<◌, true, false, cond, List, [], ◌∷◌, ◌++◌, nat_eq, codes, arith}
use Rattle.std.proofs.lemmas.Bool.Decides.{nat_tests}
use Rattle.std.specs.Fmt.{decimal, digits}
use Rattle.pf_base.specs.NumberTexts.{fraction_text, six_digits, with_digit, without_end_zeros}

digit : (d : ℕ) → d < 10 → decimal d ≡ (48 + d) ∷ []
unfolding digits
digit zero h = refl
digit (suc zero) h = refl
digit (suc (suc zero)) h = refl
digit (suc (suc (suc zero))) h = refl
digit (suc (suc (suc (suc zero)))) h = refl
digit (suc (suc (suc (suc (suc zero))))) h = refl
digit (suc (suc (suc (suc (suc (suc zero)))))) h = refl
digit (suc (suc (suc (suc (suc (suc (suc zero))))))) h = refl
digit (suc (suc (suc (suc (suc (suc (suc (suc zero)))))))) h = refl
digit (suc (suc (suc (suc (suc (suc (suc (suc (suc zero))))))))) h = refl
digit (suc (suc (suc (suc (suc (suc (suc (suc (suc (suc d)))))))))) h = absurd (omega (arith, h))

abbrev three : ℕ → List ℕ
three m = (48 + m / 100) ∷ (48 + m / 10 % 10) ∷ (48 + m % 10) ∷ 48 ∷ 48 ∷ 48 ∷ []

six : (m : ℕ) → m < 1000 → six_digits (m * 1000) ≡ three m
six m h =
    let a : 48 + m * 1000 / 100000 ≡ 48 + m / 100 = omega arith in
    let b : 48 + m * 1000 / 10000 % 10 ≡ 48 + m / 10 % 10 = omega arith in
    let c : 48 + m * 1000 / 1000 % 10 ≡ 48 + m % 10 = omega arith in
    let d : 48 + m * 1000 / 100 % 10 ≡ 48 = omega arith in
    let e : 48 + m * 1000 / 10 % 10 ≡ 48 = omega arith in
    let f : 48 + m * 1000 % 10 ≡ 48 = omega arith in
    ap (λ x. x ∷ (48 + m * 1000 / 10000 % 10) ∷ (48 + m * 1000 / 1000 % 10) ∷ (48 + m * 1000 / 100 % 10) ∷ (48 + m * 1000 / 10 % 10) ∷ (48 + m * 1000 % 10) ∷ []) a
    ∙ (ap (λ x. (48 + m / 100) ∷ x ∷ (48 + m * 1000 / 1000 % 10) ∷ (48 + m * 1000 / 100 % 10) ∷ (48 + m * 1000 / 10 % 10) ∷ (48 + m * 1000 % 10) ∷ []) b
    ∙ (ap (λ x. (48 + m / 100) ∷ (48 + m / 10 % 10) ∷ x ∷ (48 + m * 1000 / 100 % 10) ∷ (48 + m * 1000 / 10 % 10) ∷ (48 + m * 1000 % 10) ∷ []) c
    ∙ (ap (λ x. (48 + m / 100) ∷ (48 + m / 10 % 10) ∷ (48 + m % 10) ∷ x ∷ (48 + m * 1000 / 10 % 10) ∷ (48 + m * 1000 % 10) ∷ []) d
    ∙ (ap (λ x. (48 + m / 100) ∷ (48 + m / 10 % 10) ∷ (48 + m % 10) ∷ 48 ∷ x ∷ (48 + m * 1000 % 10) ∷ []) e
    ∙ ap (λ x. (48 + m / 100) ∷ (48 + m / 10 % 10) ∷ (48 + m % 10) ∷ 48 ∷ 48 ∷ x ∷ []) f))))

ends : (a b c : ℕ) → without_end_zeros (a ∷ b ∷ c ∷ 48 ∷ 48 ∷ 48 ∷ []) ≡ with_digit a (with_digit b (with_digit c []))
unfolding without_end_zeros
ends a b c = refl

some_fraction : (m : ℕ) → m < 1000 → 0 < m
    → fraction_text (m * 1000) ≡ codes "." ++ with_digit (48 + m / 100) (with_digit (48 + m / 10 % 10) (with_digit (48 + m % 10) []))
some_fraction m h p =
    let n : nat_eq (m * 1000) 0 ≡ false = grind (arith, nat_tests) in
    ap (λ b. cond b [] (codes "." ++ without_end_zeros (six_digits (m * 1000)))) n
    ∙ (ap (λ xs. codes "." ++ without_end_zeros xs) (six m h)
    ∙ ap (λ xs. codes "." ++ xs) (ends (48 + m / 100) (48 + m / 10 % 10) (48 + m % 10)))

no_digit : (x : ℕ) → nat_eq x 48 ≡ true → with_digit x [] ≡ []
no_digit x h = ap (λ b. cond b [] (x ∷ [])) h

a_digit : (x : ℕ) → nat_eq x 48 ≡ false → with_digit x [] ≡ x ∷ []
a_digit x h = ap (λ b. cond b [] (x ∷ [])) h

pub no_fraction : (m : ℕ) → m ≡ 0 → fraction_text (m * 1000) ≡ []
no_fraction m h = ap (λ n. fraction_text (n * 1000)) h

pub one_digit : (m : ℕ) → m < 1000 → 0 < m → m % 100 ≡ 0 → fraction_text (m * 1000) ≡ codes "." ++ decimal (m / 100)
one_digit m h p z =
    let c : nat_eq (48 + m % 10) 48 ≡ true = grind (arith, nat_tests) in
    let b : nat_eq (48 + m / 10 % 10) 48 ≡ true = grind (arith, nat_tests) in
    let a : nat_eq (48 + m / 100) 48 ≡ false = grind (arith, nat_tests) in
    some_fraction m h p
    ∙ (ap (λ xs. codes "." ++ with_digit (48 + m / 100) (with_digit (48 + m / 10 % 10) xs)) (no_digit (48 + m % 10) c)
    ∙ (ap (λ xs. codes "." ++ with_digit (48 + m / 100) xs) (no_digit (48 + m / 10 % 10) b)
    ∙ (ap (λ xs. codes "." ++ xs) (a_digit (48 + m / 100) a)
    ∙ ap (λ xs. codes "." ++ xs) (sym (digit (m / 100) (omega arith))))))

pub two_digits : (m : ℕ) → m < 1000 → 0 < m % 100 → m % 10 ≡ 0
    → fraction_text (m * 1000) ≡ codes "." ++ (decimal (m / 100) ++ decimal (m / 10 % 10))
two_digits m h p z =
    let c : nat_eq (48 + m % 10) 48 ≡ true = grind (arith, nat_tests) in
    let b : nat_eq (48 + m / 10 % 10) 48 ≡ false = grind (arith, nat_tests) in
    some_fraction m h (omega (arith, p))
    ∙ (ap (λ xs. codes "." ++ with_digit (48 + m / 100) (with_digit (48 + m / 10 % 10) xs)) (no_digit (48 + m % 10) c)
    ∙ (ap (λ xs. codes "." ++ with_digit (48 + m / 100) xs) (a_digit (48 + m / 10 % 10) b)
    ∙ (ap (λ xs. codes "." ++ (xs ++ ((48 + m / 10 % 10) ∷ []))) (sym (digit (m / 100) (omega arith)))
    ∙ ap (λ xs. codes "." ++ (decimal (m / 100) ++ xs)) (sym (digit (m / 10 % 10) (omega arith))))))

pub three_digits : (m : ℕ) → m < 1000 → 0 < m % 10
    → fraction_text (m * 1000) ≡ codes "." ++ (decimal (m / 100) ++ (decimal (m / 10 % 10) ++ decimal (m % 10)))
three_digits m h p =
    let c : nat_eq (48 + m % 10) 48 ≡ false = grind (arith, nat_tests) in
    some_fraction m h (omega (arith, p))
    ∙ (ap (λ xs. codes "." ++ with_digit (48 + m / 100) (with_digit (48 + m / 10 % 10) xs)) (a_digit (48 + m % 10) c)
    ∙ (ap (λ xs. codes "." ++ (xs ++ ((48 + m / 10 % 10) ∷ (48 + m % 10) ∷ []))) (sym (digit (m / 100) (omega arith)))
    ∙ (ap (λ xs. codes "." ++ (decimal (m / 100) ++ (xs ++ ((48 + m % 10) ∷ [])))) (sym (digit (m / 10 % 10) (omega arith)))
    ∙ ap (λ xs. codes "." ++ (decimal (m / 100) ++ (decimal (m / 10 % 10) ++ xs))) (sym (digit (m % 10) (omega arith))))))
