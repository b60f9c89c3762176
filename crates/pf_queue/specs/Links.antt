-- How a ring lies in two lists of places: behind each tenant that waits stands the next one, and behind it the one before.
-- The place of the capacity stands for both ends.
use Rattle.std.specs.Prelude.{◌≡◌, ℕ, zero, suc, ◌+◌, ◌≤◌, ◌<◌, ◌==◌, cond, true, false, List, [], ◌∷◌, length, slice_index_or, slice_set}
use Rattle.pf_queue.specs.Rings.{AreDifferent, waits}

abbrev pub at : List ℕ → ℕ → ℕ
at places t = slice_index_or places t 0

-- the tenants from one on, at most so many
abbrev pub walk : List ℕ → ℕ → ℕ → ℕ → List ℕ
walk next end t zero = []
walk next end t (suc n) = cond (t == end) [] (t ∷ walk next end (at next t) n)

-- those that wait
abbrev pub waiting_of : List ℕ → ℕ → List ℕ
waiting_of next end = walk next end (at next end) end

-- from one place over these to another, forwards and backwards
abbrev pub Linked : (ℕ → ℕ) → (ℕ → ℕ) → ℕ → List ℕ → ℕ → Type 0
Linked next previous before [] after = (next before ≡ after) × (previous after ≡ before)
Linked next previous before (t ∷ ts) after = (next before ≡ t) × (previous t ≡ before) × Linked next previous t ts after

-- the places are those of this list, and a tenant that isn't in it stands behind itself
pub record IsRing (next previous : List ℕ) (end : ℕ) (waiting : List ℕ) : Type 0 where
  pub next_length : length next ≡ end + 1
  pub previous_length : length previous ≡ end + 1
  pub next_within : (t : ℕ) → at next t ≤ end
  pub previous_within : (t : ℕ) → at previous t ≤ end
  pub linked : Linked (at next) (at previous) end waiting end
  pub different : AreDifferent waiting
  pub within : (t : ℕ) → waits t waiting ≡ true → t < end
  pub absent : (t : ℕ) → t < end → waits t waiting ≡ false → at next t ≡ t

-- the links once a tenant is taken out
abbrev pub next_without : List ℕ → List ℕ → ℕ → List ℕ
next_without next previous t = slice_set (slice_set next t t) (at previous t) (at next t)

abbrev pub previous_without : List ℕ → List ℕ → ℕ → List ℕ
previous_without next previous t = slice_set previous (at next t) (at previous t)

-- and once one is put last
abbrev pub next_with : List ℕ → List ℕ → ℕ → ℕ → List ℕ
next_with next previous end t = slice_set (slice_set next (at previous end) t) t end

abbrev pub previous_with : List ℕ → ℕ → ℕ → List ℕ
previous_with previous end t = slice_set (slice_set previous t (at previous end)) end t
