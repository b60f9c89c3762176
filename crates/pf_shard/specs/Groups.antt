-- What shards know of groups at each step of a run, as columns: this project's own, after Mimir's query sharding.
use Rattle.std.specs.Prelude.{◌≤◌, ◌*◌, ℕ, ℤ, Option, Some, None, List, [], ◌∷◌, map, slice_index_or, unsigned_abs}
use Rattle.pf_base.specs.Limits.{greatest_size}
use Rattle.pf_base.specs.declared.plain.Partial.{Partial}
use Rattle.pf_base.specs.LabelSets.{Pairs}
use Rattle.pf_model.specs.declared.cell.ErrorKind.{ErrorKind}
use Rattle.pf_model.specs.Cells.{values_of}
use Rattle.pf_model.specs.Legs.{GroupPart, PartData, bad, grouped, partial_of}
use Rattle.pf_model.specs.Lists.{Each, joined}
use Rattle.pf_model.specs.Merging.{below, merged}
use Rattle.pf_columns.specs.Columns.{ColumnData, cell_at, columns_labels}
use Rattle.pf_columns.specs.Groups.{keys_by, members}
use Rattle.pf_columns.specs.Steps.{bad_in}

-- a key, and what is known of its group at each step, if it has values there
pub record GroupColumnData : Type 0 where
  pub key : Pairs
  pub partials : List (Option Partial)

-- columns, and the errors of steps
pub record GroupStepsData : Type 0 where
  pub columns : List GroupColumnData
  pub bads : List (Option ErrorKind)

abbrev pub keys_in : List GroupColumnData → List Pairs
keys_in cs = map (λ c. c.key) cs

-- what is known at a step; a step behind the last partial has none
abbrev pub partial_in : List (Option Partial) → ℕ → Option Partial
partial_in ps k = slice_index_or ps k None

-- a group, none where nothing is known of it
abbrev pub group : Pairs → Option Partial → List GroupPart
group key None = []
group key (Some p) = record { key = key; partial = p } ∷ []

-- the groups of a step
abbrev pub groups_in : List GroupColumnData → ℕ → List GroupPart
groups_in cs k = joined (λ c. group c.key (partial_in c.partials k)) cs

-- an error, or else groups
abbrev pub groups_unless : Option ErrorKind → List GroupPart → PartData
groups_unless None gs = grouped gs
groups_unless (Some kind) gs = bad kind

-- what a shard knows at a step
abbrev pub groups_at : GroupStepsData → ℕ → PartData
groups_at g k = groups_unless (bad_in g.bads k) (groups_in g.columns k)

-- what is known of at least one and at most so many values, each at most 10^18 in size
abbrev pub IsWithin : ℕ → Option Partial → Type 0
IsWithin most None = Unit {0}
IsWithin most (Some p) = (1 ≤ p.count) × (p.count ≤ most) × (unsigned_abs p.sum ≤ p.count * greatest_size)

abbrev pub AreWithin : ℕ → List GroupColumnData → Type 0
AreWithin most cs = Each (λ c. Each (IsWithin most) c.partials) cs

-- ---- what is known of values

-- what is known of a group twice, together
abbrev pub both : Option Partial → Option Partial → Option Partial
both None b = b
both (Some a) None = Some a
both (Some a) (Some b) = Some (merged (a ∷ b ∷ []))

-- what is known of values, nothing of none
abbrev pub known_of : List ℤ → Option Partial
known_of [] = None
known_of (v ∷ vs) = Some (partial_of (v ∷ vs))

abbrev pub known_one : Option ℤ → Option Partial
known_one None = None
known_one (Some v) = Some (partial_of (v ∷ []))

-- with the values of a further column
abbrev pub with_values : List (Option Partial) → List (Option ℤ) → List (Option Partial)
with_values [] vs = []
with_values (p ∷ ps) [] = p ∷ ps
with_values (p ∷ ps) (v ∷ vs) = both p (known_one v) ∷ with_values ps vs

-- what is known of columns at each of so many steps
abbrev pub known_over : ℕ → List ColumnData → List (Option Partial)
known_over n cs = below (λ k. known_of (values_of (cell_at cs k))) n

abbrev pub group_columns : (Pairs → Pairs) → List ColumnData → ℕ → List GroupColumnData
group_columns key cs n = map (λ l. record { key = l; partials = known_over n (members key l cs) }) (keys_by key (columns_labels cs))

-- keys with what is known of each
abbrev pub with_keys : List Pairs → List (List (Option Partial)) → List GroupColumnData
with_keys [] pss = []
with_keys (l ∷ ls) [] = []
with_keys (l ∷ ls) (ps ∷ pss) = record { key = l; partials = ps } ∷ with_keys ls pss
