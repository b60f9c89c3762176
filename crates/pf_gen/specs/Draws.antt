-- Numbers that are drawn one after another, by a linear congruence with the factor and the addend of Knuth's MMIX (The Art of
-- Computer Programming, volume 2, 3.3.4). Which of their digits are used is this project's own.
use Rattle.std.specs.Prelude.{ℕ, zero, suc, ◌+◌, ◌*◌, ◌/◌, ◌%◌}

-- the state behind a draw, and behind so many
abbrev pub next : ℕ → ℕ
next x = (x * 6364136223846793005 + 1442695040888963407) % 18446744073709551616

unfoldable pub behind : ℕ → ℕ → ℕ
behind zero x = x
behind (suc n) x = next (behind n x)

-- what is drawn from a state: the first 31 of the 64 bits of the next one
abbrev pub drawn : ℕ → ℕ
drawn x = next x / 8589934592

-- and behind so many draws
abbrev pub drawn_behind : ℕ → ℕ → ℕ
drawn_behind n x = drawn (behind n x)
