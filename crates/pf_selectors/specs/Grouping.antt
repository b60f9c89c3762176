-- Series that are numbered by their keys, for their groups. This project's own.
use Rattle.std.specs.Prelude.{◌≡◌, ℕ, ◌<◌, ◌≤◌, ◌||◌, Option, None, Some, List, [], length, map, slice_index_or}
use Rattle.std.specs.List.{All, list_any}
use Rattle.pf_base.specs.LabelSets.{Pairs}
use Rattle.pf_model.specs.Selection.{same_labels}

-- the key of a series, and those of some series
abbrev pub key_at : (Pairs → Pairs) → List Pairs → ℕ → Pairs
key_at key ls id = key (slice_index_or ls id [])

abbrev pub keys_at : (Pairs → Pairs) → List Pairs → List ℕ → List Pairs
keys_at key ls ids = map key (map (λ id. slice_index_or ls id []) ids)

-- series are numbered: at each one's number its key stands, and others don't stand there
pub record AreNumbered (key : Pairs → Pairs) (ls : List Pairs) (ids : List ℕ) (keys : List Pairs) (numbers : List ℕ) : Type 0 where
  pub within : All (λ n. n < length keys) numbers
  pub same : map (λ n. slice_index_or keys n []) numbers ≡ keys_at key ls ids
  pub stands : (l : Pairs) → list_any (same_labels l) keys ≡ list_any (same_labels l) (keys_at key ls ids)

-- where a number is noted of a series, its key stands there
pub record AreNoted (key : Pairs → Pairs) (ls : List Pairs) (keys : List Pairs) (noted : List (Option ℕ)) : Type 0 where
  pub within : (k n : ℕ) → slice_index_or noted k None ≡ Some n → n < length keys
  pub same : (k n : ℕ) → slice_index_or noted k None ≡ Some n → slice_index_or keys n [] ≡ key_at key ls k

-- a key stands at a number, and no more than it was added to the keys
pub record Adds (key : Pairs) (old new : List Pairs) (n : ℕ) : Type 0 where
  pub within : n < length new
  pub is : slice_index_or new n [] ≡ key
  pub long : length old ≤ length new
  pub keeps : (m : ℕ) → m < length old → slice_index_or new m [] ≡ slice_index_or old m []
  pub stands : (l : Pairs) → list_any (same_labels l) new ≡ (list_any (same_labels l) old || same_labels l key)
