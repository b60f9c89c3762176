-- Levels that fit within a number of levels.
use Rattle.std.proofs.Common.{ℕ, ◌≡◌, ◌+◌, ◌-◌, ◌<◌, max, ◌&&◌, arith}
use Rattle.std.specs.Prelude.{nat_le}
use Rattle.std.proofs.lemmas.Bool.Decides.{nat_tests}

pub one_more : (a n : ℕ) → 0 < n → nat_le (1 + a) n ≡ nat_le a (n - 1)
one_more a n some = grind (arith, nat_tests)

pub max_fits : (a b n : ℕ) → nat_le (max a b) n ≡ (nat_le a n && nat_le b n)
max_fits a b n = grind (arith, nat_tests)
