-- What the traits of the outside promise: counts of faults that never fall, and contents where they are told. This
-- project's own.
use Rattle.std.specs.Prelude.{◌≡◌, ◌⊎◌, ℕ, ◌+◌, ◌<◌, ◌≤◌, Bool, IsTrue, List, ◌++◌, length, Option, Some, None}

-- a count of faults rose, or stands at its greatest value
abbrev pub Rose : ℕ → ℕ → Type 0
Rose old new = (old < new) ⊎ (18446744073709551615 ≤ new)

-- a number went up by one, or stands at its greatest value
abbrev pub UpByOne : ℕ → ℕ → Type 0
UpByOne old new = (new ≡ old + 1) ⊎ (18446744073709551615 ≤ new)

-- where what was written is told: these bytes were added
abbrev pub Grows : Option (List ℕ) → Option (List ℕ) → List ℕ → Type 0
Grows None new bytes = Unit {0}
Grows (Some old) new bytes = new ≡ Some (old ++ bytes)

-- what a name holds, where it is told, is these bytes
abbrev pub Holds : Option (List ℕ) → List ℕ → Type 0
Holds None bytes = Unit {0}
Holds (Some told) bytes = bytes ≡ told

-- what a name holds, where it is told, is longer than this many bytes
abbrev pub LongerThan : Option (List ℕ) → ℕ → Type 0
LongerThan None most = Unit {0}
LongerThan (Some told) most = most < length told

-- where a greatest count is told, the count is within it
abbrev pub WithinMost : Option ℕ → ℕ → Type 0
WithinMost None count = Unit {0}
WithinMost (Some most) count = count ≤ most

-- what is known of names is still known
abbrev pub StayKnown : (List ℕ → Bool) → (List ℕ → Bool) → Type 0
StayKnown old new = (name : List ℕ) → IsTrue (old name) → IsTrue (new name)
