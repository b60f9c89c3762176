-- How many digits numbers have, and the digits of a million and more.
use Rattle.std.proofs.Common.{◌≡◌, ℕ, zero, suc, ◌+◌, ◌*◌, ◌/◌, ◌%◌, ◌^◌, ◌<◌, ◌≤◌, ◌∷◌, length, ap, ◌∙◌, arith, length-append}
use Rattle.std.specs.Fmt.{decimal}
use Rattle.std.proofs.Math.Nat.{pow-suc}
use Rattle.std.proofs.lemmas.Fmt.{decimal_digit, decimal_step}
use Rattle.pf_base.specs.NumberTexts.{six_digits}

positive : (k : ℕ) → 0 < 10 ^ k
positive zero = omega arith
positive (suc k) = omega (arith, pow-suc 10 k, positive k)

pub length_zero : (n : ℕ) → n ≡ 0 → length (decimal n) ≡ 1
length_zero n h = ap length (decimal_digit n (omega arith))

pub length_exact : (k n : ℕ) → 10 ^ k ≤ n → n < 10 * 10 ^ k → n < 2 ^ 64 → length (decimal n) ≡ k + 1
length_exact zero n lo hi h = ap length (decimal_digit n (omega arith))
length_exact (suc k) n lo hi h =
    let p = pow-suc 10 k in
    let pos = positive k in
    ap length (decimal_step n (omega arith) h) ∙ length-append (decimal (n / 10)) _
    ∙ ap (λ l. l + 1) (length_exact k (n / 10) (omega arith) (omega arith) (omega arith)) ∙ omega arith

pub seven_digits : (n : ℕ) → n < 1000000 → decimal (1000000 + n) ≡ 49 ∷ six_digits n
seven_digits n h =
    let a : (1000000 + n) / 10 / 10 ≡ (1000000 + n) / 100 = omega arith in
    let b : (1000000 + n) / 100 / 10 ≡ (1000000 + n) / 1000 = omega arith in
    let c : (1000000 + n) / 1000 / 10 ≡ (1000000 + n) / 10000 = omega arith in
    let d : (1000000 + n) / 10000 / 10 ≡ (1000000 + n) / 100000 = omega arith in
    let e : (1000000 + n) / 100000 / 10 ≡ 1 = omega arith in
    let z : (1000000 + n) / 100000 % 10 ≡ n / 100000 = omega arith in
    let y : (1000000 + n) / 10000 % 10 ≡ n / 10000 % 10 = omega arith in
    let x : (1000000 + n) / 1000 % 10 ≡ n / 1000 % 10 = omega arith in
    let w : (1000000 + n) / 100 % 10 ≡ n / 100 % 10 = omega arith in
    let v : (1000000 + n) / 10 % 10 ≡ n / 10 % 10 = omega arith in
    let u : (1000000 + n) % 10 ≡ n % 10 = omega arith in
    rw (
      decimal_step (1000000 + n) (omega arith) (omega arith),
      decimal_step ((1000000 + n) / 10) (omega arith) (omega arith),
      a,
      decimal_step ((1000000 + n) / 100) (omega arith) (omega arith),
      b,
      decimal_step ((1000000 + n) / 1000) (omega arith) (omega arith),
      c,
      decimal_step ((1000000 + n) / 10000) (omega arith) (omega arith),
      d,
      decimal_step ((1000000 + n) / 100000) (omega arith) (omega arith),
      e,
      decimal_digit 1 (omega arith),
      z,
      y,
      x,
      w,
      v,
      u,
    )

pub length_seven : (n : ℕ) → n < 1000000 → length (decimal (1000000 + n)) ≡ 7
length_seven n h = ap length (seven_digits n h)
