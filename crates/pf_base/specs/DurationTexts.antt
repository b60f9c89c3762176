-- The texts of durations. Prometheus, PromQL: Time durations. The limit is this project's own.
use Rattle.std.specs.Prelude.{◌≡◌, ℕ, ◌+◌, ◌*◌, ◌<◌, ◌≤◌, ◌⊎◌, true, List, [], ◌∷◌, ◌++◌, length, codes, Result, Ok, Err}
use Rattle.std.specs.Str.{all_ascii_digits}
use Rattle.pf_base.specs.Limits.{greatest_time}
use Rattle.pf_base.specs.NumberTexts.{number_after}
use Rattle.pf_base.specs.declared.duration.DurationError.{DurationError}
use Rattle.pf_base.specs.declared.duration.DurationError.TheVariants.{BadForm, TooLarge}

-- the units in falling order, with their milliseconds: years of 365 days, weeks, days, hours, minutes, seconds, milliseconds
abbrev pub units : List (List ℕ × ℕ)
units =
    (codes "y", 31536000000) ∷ (codes "w", 604800000) ∷ (codes "d", 86400000) ∷ (codes "h", 3600000)
    ∷ (codes "m", 60000) ∷ (codes "s", 1000) ∷ (codes "ms", 1) ∷ []

-- bytes spell n milliseconds in these units: each is left out, or stands once behind digits, in this order
abbrev pub Spells : List (List ℕ × ℕ) → List ℕ → ℕ → Type 0
Spells [] bytes n = (bytes ≡ []) × (n ≡ 0)
Spells (u ∷ us) bytes n =
    Spells us bytes n
    ⊎ ((digits : List ℕ) × ((rest : List ℕ) × ((m : ℕ) × (
    (1 ≤ length digits) × (all_ascii_digits digits ≡ true) × (bytes ≡ digits ++ (u.0 ++ rest))
    × (n ≡ number_after 0 digits * u.1 + m) × Spells us rest m))))

-- bytes are a duration of n milliseconds
abbrev pub IsDuration : List ℕ → ℕ → Type 0
IsDuration bytes n = (1 ≤ length bytes) × Spells units bytes n

-- what bytes are answered with: a duration within the limit, one past it, or no duration
abbrev pub ReadsDuration : List ℕ → Result ℕ DurationError → Type 0
ReadsDuration bytes (Ok n) = IsDuration bytes n × (n ≤ greatest_time)
ReadsDuration bytes (Err TooLarge) = (n : ℕ) × (IsDuration bytes n × (greatest_time < n))
ReadsDuration bytes (Err BadForm) = (n : ℕ) → IsDuration bytes n → ⊥
