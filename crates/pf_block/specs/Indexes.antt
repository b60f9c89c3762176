-- What an index keeps beside the labels of the series: the id of each label set, the ids that have a pair, the series in
-- label order, and the hashes that give their shards. This project's own.
use Rattle.std.specs.Prelude.{◌≡◌, ℕ, ◌<◌, ◌^◌, true, Option, None, Some, List, [], length, map, slice_index_or}
use Rattle.std.specs.BTreeMap.{BTreeMap, get, get_by_text}
use Rattle.std.specs.declared.string.String.{String}
use Rattle.std.specs.declared.vec.Vec.{Vec}
use Rattle.std.specs.declared.alloc.Global.{Global}
use Rattle.std.specs.List.{All}
use Rattle.pf_base.specs.LabelChanges.{metric_name, others}
use Rattle.pf_base.specs.LabelSets.{IsLabels, Pairs}
use Rattle.pf_base.specs.LabelOrder.{labels_cmp}
use Rattle.pf_base.specs.ShardHash.{labels_hash}
use Rattle.pf_base.specs.Sorting.{isort}
use Rattle.pf_block.specs.LabelOrders.{by_label, ids_by_label, numbered_from}
use Rattle.pf_block.specs.SeriesIds.{id_of, ids_with}
use Rattle.pf_block.specs.Snaps.{are_apart}

abbrev pub Values : Type 0
Values = BTreeMap (String Global) (Vec ℕ Global)

abbrev pub Names : Type 0
Names = BTreeMap (String Global) Values

abbrev pub listed_by : Option (Vec ℕ Global) → List ℕ
listed_by None = []
listed_by (Some ids) = ids.items

abbrev pub listed_in : Option Values → List ℕ → List ℕ
listed_in None value = []
listed_in (Some values) value = listed_by (get_by_text values value)

-- the list that is kept for a pair, empty where none is kept
abbrev pub listed : Names → List ℕ → List ℕ → List ℕ
listed names name value = listed_in (get_by_text names name) value

pub record IsIndex (labels : List Pairs) (ids : BTreeMap Pairs ℕ) (names : Names) : Type 0 where
  pub found : (q : Pairs) → get labels_cmp ids q ≡ id_of q labels
  pub postings : (name value : List ℕ) → listed names name value ≡ ids_with name value labels
  pub apart : are_apart labels ≡ true
  pub few : length labels < 2 ^ 32
  pub lawful : All IsLabels labels
  pub placed : ids.entries ≡ isort by_label (numbered_from 0 labels)

-- the hash of each series that gives its shard
abbrev pub hashes_of : List Pairs → List ℕ
hashes_of = map (λ l. labels_hash (others metric_name l))

-- the series in label order, each one's place there, and each one's hash
pub record AreRanked (labels : List Pairs) (ids ranks hashes : List ℕ) : Type 0 where
  pub order : ids ≡ ids_by_label labels
  pub count : length ranks ≡ length labels
  pub within : (id : ℕ) → id < length labels → slice_index_or ranks id 0 < length labels
  pub placed : (id : ℕ) → id < length labels → slice_index_or ids (slice_index_or ranks id 0) 0 ≡ id
  pub hashed : hashes ≡ hashes_of labels
