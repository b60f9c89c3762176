-- The failed tries of a run against the faults that its hops count: this project's own.
use Rattle.std.specs.Prelude.{◌≡◌, ◌⊎◌, ℕ, ◌+◌, ◌<◌, ◌≤◌, Option, Some, None, List, [], ◌∷◌, option_map, sum}

-- failed tries of which none was counted before: no more than hops' counts of faults rose, or these stand at their greatest value
abbrev pub AreCarriedPast : (before after : ℕ) → (failed : List ℕ) → Type 0
AreCarriedPast before after failed = (18446744073709551615 ≤ after) ⊎ (sum failed + before ≤ after)

-- what hops count at most, all together, where each tells it
abbrev pub with_most : Option ℕ → Option ℕ → Option ℕ
with_most None rest = None
with_most (Some n) rest = option_map (λ m. n + m) rest

abbrev pub most_of : List (Option ℕ) → Option ℕ
most_of [] = Some 0
most_of (m ∷ ms) = with_most m (most_of ms)

-- where that is told, and below the greatest value: the failed tries are no more than what was left up to there
abbrev pub AreSpared : List (Option ℕ) → (before : ℕ) → (failed : List ℕ) → Type 0
AreSpared most before failed = (total : ℕ) → most_of most ≡ Some total → total < 18446744073709551615 → sum failed + before ≤ total

-- the failed tries of a run have their cause in its hops
pub record HaveCause (most : List (Option ℕ)) (before after : ℕ) (failed : List ℕ) : Type 0 where
  pub carried : AreCarriedPast before after failed
  pub spared : AreSpared most before failed
