-- A map of two pairs, worked by hand.
use Rattle.std.proofs.Common.{◌≡◌, ◌∷◌, [], ℕ, List, refl}
use Rattle.std.specs.Prelude.{nat_eq}
use Rattle.lru.specs.LruCache.{LruCache, lru_cache, promoted, put_entries}

abbrev pairs : List (ℕ × ℕ)
pairs = (2, 20) ∷ (1, 10) ∷ []

abbrev full : LruCache ℕ ℕ
full = lru_cache pairs 2

abbrev half : LruCache ℕ ℕ
half = lru_cache ((1, 10) ∷ []) 2

module _ (thirty eleven : ℕ) where
  -- a new key in a full map: the last one goes
  a_third : put_entries nat_eq full 3 thirty ≡ (3, thirty) ∷ (2, 20) ∷ []
  a_third = refl

  -- one that is there: nobody goes
  the_same : put_entries nat_eq full 1 eleven ≡ (1, eleven) ∷ (2, 20) ∷ []
  the_same = refl

  -- before it is full
  a_second : put_entries nat_eq half 2 eleven ≡ (2, eleven) ∷ (1, 10) ∷ []
  a_second = refl

looked_up : promoted (nat_eq 1) pairs ≡ (1, 10) ∷ (2, 20) ∷ []
looked_up = refl

not_there : promoted (nat_eq 3) pairs ≡ pairs
not_there = refl
