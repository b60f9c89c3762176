-- What a cache is once the reference that a call gave out has ended.
use Rattle.std.specs.Prelude.{◌≡◌, ⊤}
use Rattle.std.specs.Borrow.{Fml, RattleType, MutBor, follows_so}
use Rattle.std.specs.HashMap.Lent.{HashMembers}
use mathlib.Core.Option.{none}
use Rattle.lru.specs.LruCache.{LruCache}
use Rattle.pf_cache.specs.contracts.bounded.Bounded.{the_row}

module _ (K L : RattleType) (key : HashMembers K.Denot) where
  abbrev pub bounded_row : RattleType
  bounded_row = the_row K L (record {}) (record { eq = key.eq }) (record { hash_input = key.hash_input })

  abbrev pub ends_as : MutBor (LruCache K.Denot L.Denot) → LruCache K.Denot L.Denot → Fml
  ends_as b x = follows_so bounded_row bounded_row b.ghost_name none (λ _ _. ⊤) (λ n. n ≡ x)
