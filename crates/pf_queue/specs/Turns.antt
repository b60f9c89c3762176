-- How often tenants are served: this project's own.
use Rattle.std.specs.Prelude.{◌≡◌, ℕ, ◌+◌, ◌≤◌, ◌==◌, Bool, true, false, cond, List, [], ◌∷◌, ◌++◌, drop}
use Rattle.pf_queue.specs.Rings.{AreDifferent, waits, without}

-- one call of a ring
pub data Step : Type 0 where
  add : ℕ → Step
  take : Step
  leave : ℕ → Step

-- the first of those that wait is this one
abbrev pub is_first : ℕ → List ℕ → Bool
is_first t [] = false
is_first t (u ∷ us) = u == t

-- a tenant waits on through these steps: it isn't taken and doesn't leave; and who is added doesn't wait yet
abbrev pub WaitsOn : ℕ → List Step → List ℕ → Type 0
WaitsOn t [] us = Unit {0}
WaitsOn t (add u ∷ steps) us = (waits u us ≡ false) × WaitsOn t steps (us ++ u ∷ [])
WaitsOn t (take ∷ steps) us = (is_first t us ≡ false) × WaitsOn t steps (drop 1 us)
WaitsOn t (leave u ∷ steps) us = (u ≡ t → ⊥) × WaitsOn t steps (without u us)

-- how often a tenant is taken in these steps
abbrev pub served : ℕ → List Step → List ℕ → ℕ
served t [] us = 0
served t (add u ∷ steps) us = served t steps (us ++ u ∷ [])
served t (take ∷ steps) us = cond (is_first t us) 1 0 + served t steps (drop 1 us)
served t (leave u ∷ steps) us = served t steps (without u us)

-- while a tenant waits, no other one is served twice
abbrev pub ServesInTurn : Type 0
ServesInTurn =
    (waiting : List ℕ) (steps : List Step) (t u : ℕ)
    → AreDifferent waiting → waits t waiting ≡ true → (u ≡ t → ⊥) → WaitsOn t steps waiting → served u steps waiting ≤ 1
