-- Numbers that digits write.
use Rattle.std.proofs.Common.{◌≡◌, ℕ, zero, suc, ◌+◌, ◌-◌, ◌*◌, ◌<◌, ◌≤◌, true, min, List, [], ◌∷◌, length, get_or, take, arith}
use Rattle.std.specs.List.{list_all}
use Rattle.std.specs.Char.{is_ascii_digit}
use Rattle.std.proofs.lemmas.Bool.{and_parts}
use Rattle.std.proofs.lemmas.Bool.Decides.{nat_tests}
use Rattle.pf_base.specs.NumberTexts.{number_after}
use Rattle.pf_expo.specs.Scans.{capped}
use Rattle.pf_base.proofs.Digits.{number_more}

in_range : (b : ℕ) → is_ascii_digit b ≡ true → (48 ≤ b) × (b ≤ 57)
in_range b h = grind (arith, nat_tests)

pub digit_at : (bs : List ℕ) (i : ℕ) → list_all is_ascii_digit bs ≡ true → i < length bs → (48 ≤ get_or bs i 0) × (get_or bs i 0 ≤ 57)
digit_at [] i h lt = absurd (omega arith)
digit_at (b ∷ bs) zero h lt = in_range b (and_parts _ _ h).0
digit_at (b ∷ bs) (suc i) h lt = digit_at bs i (and_parts _ _ h).1 (omega arith)

pub read_step : (x r : ℕ) (bs : List ℕ) (i : ℕ) → i < length bs → x ≡ capped (number_after 0 (take i bs)) → r ≡ min (x * 10 + (get_or bs i 0 - 48)) 4398046511104
    → r ≡ capped (number_after 0 (take (i + 1) bs))
read_step x r bs i lt ex er = let m = number_more 0 bs i lt in omega (arith, m)
