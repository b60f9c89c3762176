-- The tenants by number, and the place of one that an entry is to name. This project's own.
use Rattle.std.specs.HashMap.{HashMap, get_by_text}
use Rattle.std.specs.Prelude.{◌≡◌, ℕ, ◌<◌, ◌≤◌, Bool, false, bytes_eq, MatchOption, Option, Some, None, List, [], ◌∷◌, ◌++◌, length, slice_get, slice_set, unwrap_or, String}
use Rattle.pf_journal.specs.Machine.{most_tenants}
use Rattle.pf_model.specs.Log.{Rules}
use Rattle.pf_store.specs.Standing.{IsLog, LogData}
use Rattle.pf_core.specs.declared.tenants.Seat.{Seat}

-- the names, the logs and the numbers of open queries stand by number
pub record TenantsData : Type 0 where
  pub names : List (List ℕ)
  pub logs : List LogData
  pub counts : List ℕ

-- no tenant has this name
abbrev pub IsUnknown : List (List ℕ) → List ℕ → Type 0
IsUnknown names name = (u : ℕ) → slice_get names u ≡ Some name → ⊥

-- no two names are equal
abbrev pub AreApart : List (List ℕ) → Type 0
AreApart names = (u v : ℕ) (name : List ℕ) → slice_get names u ≡ Some name → slice_get names v ≡ Some name → u ≡ v

-- a tenant has this name
abbrev pub is_same : List ℕ → Option (List ℕ) → Bool
is_same name None = false
is_same name (Some known) = bytes_eq known name

abbrev pub is_named : List (List ℕ) → ℕ → List ℕ → Bool
is_named names u name = is_same name (slice_get names u)

-- the number that is found by a name is that of the tenant of this name
abbrev pub FindsNames : {X S : Type 0} → List (List ℕ) → HashMap (String X) ℕ S → Type 0
FindsNames names numbers =
    (name : List ℕ) → MatchOption (get_by_text numbers name) (IsUnknown names name) (λ u. slice_get names u ≡ Some name)

-- there is a log and a count for each name, and not too many are known
pub record AreTenants (t : TenantsData) : Type 0 where
  pub apart : AreApart t.names
  pub few : length t.names ≤ most_tenants
  pub many_logs : length t.logs ≡ length t.names
  pub many_counts : length t.counts ≡ length t.names

-- a number that a known tenant has, or the next one
abbrev pub IsFree : TenantsData → (number : ℕ) → (newcomer : Option (List ℕ)) → Type 0
IsFree t number None = number < length t.names
IsFree t number (Some name) = (number ≡ length t.names) × ((number < most_tenants) × IsUnknown t.names name)

-- a known tenant with its log, or a new one with an empty log
abbrev pub IsSeated : TenantsData → (rules : Rules) → (name : List ℕ) → (number : ℕ) → LogData → (newcomer : Option (List ℕ)) → Type 0
IsSeated t rules name number log None = (slice_get t.names number ≡ Some name) × (slice_get t.logs number ≡ Some log)
IsSeated t rules name number log (Some new) = (new ≡ name) × IsLog rules log []

pub record IsSeat (t : TenantsData) (rules : Rules) (name : List ℕ) (s : Seat) : Type 0 where
  pub tenants : AreTenants t
  pub free : IsFree t s.number s.newcomer
  pub seated : IsSeated t rules name s.number s.log s.newcomer

-- as many tenants are known as may be, and none has this name
pub record IsStranger (t : TenantsData) (name : List ℕ) : Type 0 where
  pub many : length t.names ≡ most_tenants
  pub unknown : IsUnknown t.names name

abbrev pub Seats : TenantsData → Rules → List ℕ → Option Seat → Type 0
Seats t rules name None = IsStranger t name
Seats t rules name (Some s) = IsSeat t rules name s

-- the tenants with a seat's log put in, and its name, where it is new
abbrev pub settled : TenantsData → (number : ℕ) → LogData → Option (List ℕ) → TenantsData
settled t number log None = record { names = t.names; logs = slice_set t.logs number log; counts = t.counts }
settled t number log (Some name) = record { names = t.names ++ name ∷ []; logs = t.logs ++ log ∷ []; counts = t.counts ++ 0 ∷ [] }

-- a count by number; a tenant that is not known has none
abbrev pub count_at : List ℕ → ℕ → ℕ
count_at counts u = unwrap_or (slice_get counts u) 0

-- the tenants with another number of open queries of one of them
abbrev pub counted_as : TenantsData → ℕ → ℕ → TenantsData
counted_as t u n = record { names = t.names; logs = t.logs; counts = slice_set t.counts u n }
