-- The numbers of a batch's label sets, the ids of their series, and the values of its rows by number and time. This project's own.
use Rattle.std.specs.Prelude.{◌≡◌, ℕ, ◌+◌, ◌-◌, ◌<◌, ◌≤◌, ℤ, Bool, ◌&&◌, Option, None, Some, IfSome, List, length, nat_eq, slice_get, slice_index_or, slice_set}
use Rattle.std.specs.HashMap.{HashMap, get, hash_map_len}
use Rattle.pf_base.specs.declared.plain.Row.{Row}
use Rattle.pf_base.specs.LabelSets.{Pairs}
use Rattle.pf_base.specs.LabelOrder.{labels_eq}
use Rattle.pf_block.specs.Blocks.{labels_with, row_ids}
use Rattle.pf_block.specs.Snaps.{SnapData}
use Rattle.pf_block.specs.SeriesIds.{id_of}
use Rattle.pf_model.specs.Log.{held_value}
use Rattle.pf_store.specs.declared.taken.Numbered.{Numbered}

abbrev pub key_eq : ℕ × ℕ → ℕ × ℕ → Bool
key_eq p q = nat_eq p.0 q.0 && nat_eq p.1 q.1

-- each label set has a number of its own, and the values at that number are those that the rows hold for it
pub record Finds {S T : Type 0} (series : HashMap Pairs Numbered S) (values : HashMap (ℕ × ℕ) ℤ T) (rows : List Row) : Type 0 where
  pub below : (l : Pairs) (n : Numbered) → get labels_eq series l ≡ Some n → n.number < hash_map_len series
  pub apart : (l m : Pairs) (n o : Numbered) → get labels_eq series l ≡ Some n → get labels_eq series m ≡ Some o → n.number ≡ o.number → l ≡ m
  pub held : (l : Pairs) (n : Numbered) → get labels_eq series l ≡ Some n → (time : ℕ) → get key_eq values (n.number, time) ≡ held_value rows l time
  pub unheld : (l : Pairs) → get labels_eq series l ≡ None → (time : ℕ) → held_value rows l time ≡ None
  pub free : (number time : ℕ) → hash_map_len series ≤ number → get key_eq values (number, time) ≡ None

-- what is kept as the ids of label sets are their ids in the snapshot
abbrev pub AreIds : {S : Type 0} → SnapData → HashMap Pairs Numbered S → Type 0
AreIds snap series = (l : Pairs) (n : Numbered) → get labels_eq series l ≡ Some n → n.id ≡ id_of l snap.labels

-- the id of a series: the one that it has, or else the next one
abbrev pub id_by : ℕ → Option ℕ → ℕ
id_by next None = next
id_by next (Some id) = id

-- the next id then
abbrev pub next_by : ℕ → Option ℕ → ℕ
next_by next None = next + 1
next_by next (Some id) = next

-- what each number has then
abbrev pub given_by : List (Option ℕ) → ℕ → ℕ → Option ℕ → List (Option ℕ)
given_by given number next None = slice_set given number (Some next)
given_by given number next (Some id) = given

-- the last row's label set has this number
abbrev pub IsLast : {S : Type 0} → HashMap Pairs Numbered S → List Row → Numbered → Type 0
IsLast series rows n = IfSome (slice_get rows (length rows - 1)) (λ r. get labels_eq series r.labels ≡ Some n)

-- the ids are those of the rows' series in the snapshot with these rows, as are those by number
pub record Gives {S : Type 0} (snap : SnapData) (series : HashMap Pairs Numbered S) (rows : List Row) (ids : List ℕ) (given : List (Option ℕ)) (next : ℕ) (last : Numbered) : Type 0 where
  pub numbered : ids ≡ row_ids snap.labels rows
  pub by_number : (l : Pairs) (n : Numbered) → get labels_eq series l ≡ Some n → slice_index_or given n.number None ≡ id_of l (labels_with snap.labels rows)
  pub count : length given ≡ hash_map_len series
  pub follows : next ≡ length (labels_with snap.labels rows)
  pub unmet : (l : Pairs) → get labels_eq series l ≡ None → id_of l (labels_with snap.labels rows) ≡ id_of l snap.labels
  pub ends : IsLast series rows last
