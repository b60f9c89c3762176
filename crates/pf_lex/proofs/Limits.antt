-- The numbers that so many hexadecimal digits write.
use Rattle.std.proofs.Common.{◌≡◌, ℕ, zero, suc, ◌+◌, ◌*◌, ◌<◌, ◌≤◌, List, [], ◌∷◌, length, get_or, true, ap, arith, add-one}
use Rattle.std.specs.Char.{is_ascii_hexdigit}
use Rattle.std.specs.List.{list_all}
use Rattle.std.proofs.lemmas.Bool.{and_parts}

abbrev pub limit : ℕ → ℕ
limit zero = 1
limit (suc n) = 16 * limit n

pub limit_small : (n : ℕ) → n < 8 → limit n ≤ 268435456
limit_small zero h = omega arith
limit_small (suc zero) h = omega arith
limit_small (suc (suc zero)) h = omega arith
limit_small (suc (suc (suc zero))) h = omega arith
limit_small (suc (suc (suc (suc zero)))) h = omega arith
limit_small (suc (suc (suc (suc (suc zero))))) h = omega arith
limit_small (suc (suc (suc (suc (suc (suc zero)))))) h = omega arith
limit_small (suc (suc (suc (suc (suc (suc (suc zero))))))) h = omega arith
limit_small (suc (suc (suc (suc (suc (suc (suc (suc n)))))))) h = absurd (omega (arith, h))

pub digit_at : (bs : List ℕ) (i : ℕ) → list_all is_ascii_hexdigit bs ≡ true → i < length bs → is_ascii_hexdigit (get_or bs i 0) ≡ true
digit_at [] i h lt = absurd (omega (arith, lt))
digit_at (b ∷ bs) zero h lt = (and_parts (is_ascii_hexdigit b) (list_all is_ascii_hexdigit bs) h).0
digit_at (b ∷ bs) (suc i) h lt = digit_at bs i (and_parts (is_ascii_hexdigit b) (list_all is_ascii_hexdigit bs) h).1 (omega (arith, lt))

pub limit_more : (n d i : ℕ) → n < limit i → d < 16 → n * 16 + d < limit (i + 1)
limit_more n d i h k = let e : limit (i + 1) ≡ 16 * limit i = ap limit (add-one i) in omega (arith, h, k, e)
