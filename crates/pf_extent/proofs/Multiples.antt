-- Multiples of a distance, by their quotients.
use Rattle.std.proofs.Common.{◌≡◌, ℕ, suc, ◌+◌, ◌-◌, ◌*◌, ◌/◌, ◌%◌, ◌≤◌, ◌<◌, sym, ap, ◌∙◌, arith}
use Rattle.std.proofs.Math.Nat.{add-div_right, add-mod_right, add-mul, lt_of_mul-lt-mul_right, mul-div_left, mul-le-mul_right, suc-mul}
use Rattle.std.proofs.lemmas.Nat.{div-add-mod', le-div}

product_is : (s a : ℕ) → a % s ≡ 0 → (a / s) * s ≡ a
product_is s a h = omega (arith, h, div-add-mod' a s)

quotient_below : (s a b : ℕ) → a % s ≡ 0 → b % s ≡ 0 → a < b → a / s < b / s
quotient_below s a b p q h =
    let x : (a / s) * s ≡ a = product_is s a p in
    let y : (b / s) * s ≡ b = product_is s b q in
    lt_of_mul-lt-mul_right s (omega (arith, x, y, h))

-- of two multiples, the greater one is at least a distance greater
pub is_near : (s a b : ℕ) → a % s ≡ 0 → b % s ≡ 0 → a < b → a + s ≤ b
is_near s a b p q h =
    let below : a / s < b / s = quotient_below s a b p q h in
    let m : suc (a / s) * s ≤ (b / s) * s = mul-le-mul_right s (omega (arith, below)) in
    omega (arith, m, suc-mul (a / s) s, product_is s a p, product_is s b q)

-- how many distances they are apart
pub quotient_between : (s a b : ℕ) → 1 ≤ s → a % s ≡ 0 → b % s ≡ 0 → a ≤ b → (a / s ≤ b / s) × ((b - a) / s ≡ b / s - a / s)
quotient_between s a b o p q h =
    let x : (a / s) * s ≡ a = product_is s a p in
    let y : (b / s) * s ≡ b = product_is s b q in
    let below : a / s ≤ b / s = le-div (a / s) b s (omega (arith, o)) (omega (arith, x, h)) in
    let gap : a / s + (b / s - a / s) ≡ b / s = omega (arith, below) in
    let joined : (a / s) * s + (b / s - a / s) * s ≡ (b / s) * s = sym (add-mul (a / s) (b / s - a / s) s) ∙ ap (λ k. k * s) gap in
    let between : b - a ≡ (b / s - a / s) * s = omega (arith, x, y, joined) in
    let pos : 0 < s = omega (arith, o) in
    (below, ap (λ k. k / s) between ∙ mul-div_left (b / s - a / s) pos)

pub next_multiple : (s a : ℕ) → a % s ≡ 0 → (a + s) % s ≡ 0
next_multiple s a h = add-mod_right a s ∙ h

pub next_quotient : (s a : ℕ) → 1 ≤ s → (a + s) / s ≡ a / s + 1
next_quotient s a o = let pos : 0 < s = omega (arith, o) in add-div_right a pos

-- the multiple before one that is greater than another
pub multiple_before : (s b : ℕ) → s ≤ b → b % s ≡ 0 → (b - s) % s ≡ 0
multiple_before s b l h =
    let same : b - s + s ≡ b = omega (arith, l) in sym (add-mod_right (b - s) s) ∙ ap (λ k. k % s) same ∙ h
