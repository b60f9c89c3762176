-- A ring of tenants in which each waits once: this project's own.
use Rattle.std.specs.Prelude.{◌≡◌, ℕ, ◌<◌, ◌==◌, Bool, false, ◌||◌, not, List, [], ◌∷◌, filter}

-- the tenants that wait, first to last, among those from 0 to below the capacity
pub record RingData : Type 0 where
  pub capacity : ℕ
  pub waiting : List ℕ

-- whether a tenant is among those
abbrev pub waits : ℕ → List ℕ → Bool
waits t [] = false
waits t (u ∷ us) = (u == t) || waits t us

-- all but this one, in their order
abbrev pub without : ℕ → List ℕ → List ℕ
without t us = filter (λ u. not (u == t)) us

-- none stands twice
abbrev pub AreDifferent : List ℕ → Type 0
AreDifferent [] = Unit {0}
AreDifferent (t ∷ ts) = (waits t ts ≡ false) × AreDifferent ts

-- a tenant that may be put in
pub record MayWait (r : RingData) (t : ℕ) : Type 0 where
  pub known : t < r.capacity
  pub once : waits t r.waiting ≡ false
