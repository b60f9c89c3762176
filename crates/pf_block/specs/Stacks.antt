-- Blocks on one another, the newest last, and what they stand for. This project's own.
use Rattle.std.specs.Prelude.{◌≡◌, ℕ, zero, suc, ◌+◌, ◌*◌, ◌/◌, ◌<◌, ◌≤◌, ℤ, Bool, true, false, ◌||◌, ◌&&◌, List, [], ◌∷◌, ◌++◌, cond, length, map, min, take, drop, slice_index_or, int_le, nat_le, nat_lt}
use Rattle.std.specs.List.{list_all}
use Rattle.pf_base.specs.declared.plain.Sample.{Sample}
use Rattle.pf_base.specs.LabelSets.{Pairs}
use Rattle.pf_block.specs.declared.stack.Order.{Order}
use Rattle.pf_block.specs.Blocks.{Entries, ascends, samples_in, merged, times_in}
use Rattle.pf_block.specs.Layers.{cut_by}
use Rattle.pf_block.specs.Samples.{merged_samples, rises}
use Rattle.pf_block.specs.Snaps.{SnapData, IsSnap}

-- the samples of a series in all blocks, by time
abbrev pub series_in : ℕ → List Entries → List Sample
series_in id [] = []
series_in id (b ∷ bs) = merged_samples (samples_in id b) (series_in id bs)

-- the same, block by block
abbrev pub joined_in : ℕ → List Entries → List Sample
joined_in id [] = []
joined_in id (b ∷ bs) = samples_in id b ++ joined_in id bs

-- those that a read finds: block by block where each series' samples rise from block to block
abbrev pub read_in : Bool → ℕ → List Entries → List Sample
read_in true id blocks = joined_in id blocks
read_in false id blocks = series_in id blocks

-- those of so many series from the id `first`
abbrev pub series_from : ℕ → ℕ → List Entries → List (List Sample)
series_from first zero blocks = []
series_from first (suc count) blocks = series_in first blocks ∷ series_from (first + 1) count blocks

-- what blocks stand for
abbrev pub snap_of : List Pairs → List Entries → SnapData
snap_of labels blocks = record { labels = labels; samples = series_from 0 (length labels) blocks }

-- the sum of numbers
abbrev pub total : List ℕ → ℕ
total [] = 0
total (n ∷ ns) = n + total ns

-- each number is at least twice the next
abbrev pub doubles : List ℕ → Bool
doubles [] = true
doubles (a ∷ []) = true
doubles (a ∷ b ∷ ns) = nat_le (2 * b) a && doubles (b ∷ ns)

-- each block has at most the rows of its number
abbrev pub covers : List ℕ → List Entries → Bool
covers [] [] = true
covers [] (b ∷ bs) = false
covers (n ∷ ns) [] = false
covers (n ∷ ns) (b ∷ bs) = nat_le (length b) n && covers ns bs

-- how blocks lie: in the first `ordered` each series' samples rise from block to block, and none of the first `clear` has a
-- sample after one of its series behind those
pub record IsOrdered (blocks : List Entries) (order : Order) : Type 0 where
  pub within : order.clear ≤ order.ordered
  pub front : (id : ℕ) → rises (joined_in id (take order.ordered blocks)) ≡ true
  pub apart : (id : ℕ) (x y : Sample) → 0 < times_in x (joined_in id (take order.clear blocks)) → 0 < times_in y (joined_in id (drop order.ordered blocks)) → int_le x.time y.time ≡ true

-- what the blocks of every snapshot are, with the numbers of the rows that they were built of: each is sorted, they lie in
-- this order, no block has samples of another series, no number is 0, and each is at least twice the next
pub record IsKept (labels : List Pairs) (blocks : List Entries) (sizes : List ℕ) (order : Order) : Type 0 where
  pub snap : IsSnap (snap_of labels blocks)
  pub sorted : list_all ascends blocks ≡ true
  pub known : (id : ℕ) → length labels ≤ id → series_in id blocks ≡ []
  pub filled : list_all (nat_lt 0) sizes ≡ true
  pub doubles : doubles sizes ≡ true
  pub covers : covers sizes blocks ≡ true
  pub ordered : IsOrdered blocks order

-- what the numbers of rows are that a snapshot's blocks were built of: none is 0, each is at least twice the next, and
-- together they are at least the snapshot's samples
pub record AreSizes (s : SnapData) (sizes : List ℕ) : Type 0 where
  pub filled : list_all (nat_lt 0) sizes ≡ true
  pub doubles : doubles sizes ≡ true
  pub rows : total (map length s.samples) ≤ total sizes

-- some such numbers meet a fact
pub record HasSizes (s : SnapData) (Fact : List ℕ → Type 0) : Type 0 where
  pub sizes : List ℕ
  pub are : AreSizes s sizes
  pub fact : Fact sizes

-- a sample is not after a time
abbrev pub is_not_after : ℤ → Sample → Bool
is_not_after time s = int_le s.time time

-- no sample in the blocks is after one of its series in a further block
abbrev pub is_clear : List Entries → Entries → Bool
is_clear blocks es = list_all (λ e. list_all (is_not_after e.1.time) (joined_in e.0 blocks)) es

-- a block that has taken in the blocks before it
abbrev pub merged_into : List Entries → Entries → Entries
merged_into [] es = es
merged_into (b ∷ bs) es = merged b (merged_into bs es)

-- a block, where it is not empty
abbrev pub topped : Entries → List Entries
topped [] = []
topped (e ∷ es) = (e ∷ es) ∷ []

-- the last of the first `count` blocks goes into a further one: it is behind the first `kept`, or its number is less than
-- twice the rows
abbrev pub takes_in : List ℕ → ℕ → ℕ → Entries → Bool
takes_in sizes kept zero top = false
takes_in sizes kept (suc last) top = nat_lt kept (suc last) || nat_lt (slice_index_or sizes last 0 / 2) (length top)

-- the order of the first `count` blocks of some with a further one, of which none of the first `clear` blocks has a sample
-- after one of its series
abbrev pub order_on : Order → ℕ → ℕ → ℕ → Order
order_on old clear count blocks =
    cond (nat_le count old.ordered && nat_le count (min old.clear clear)) (record { ordered = blocks; clear = blocks }) (record { ordered = min old.ordered count; clear = min old.clear clear })

-- a further block on at most the first `kept` blocks, of which the first `clear` have no sample after one of its series
pub record IsStacked (blocks : List Entries) (sizes : List ℕ) (old : Order) (kept clear : ℕ) (es : Entries) (stack : List Entries) (numbers : List ℕ) (new : Order) : Type 0 where
  pub count : ℕ
  pub within : count ≤ kept
  pub inside : count ≤ length blocks
  pub same : stack ≡ take count blocks ++ topped (merged_into (drop count blocks) es)
  pub numbered : numbers ≡ take count sizes ++ map length (topped (merged_into (drop count blocks) es))
  pub doubles : doubles numbers ≡ true
  pub ordered : new ≡ order_on old clear count (length stack)

-- a further block on blocks
pub record IsPut (blocks : List Entries) (sizes : List ℕ) (old : Order) (es : Entries) (stack : List Entries) (numbers : List ℕ) (new : Order) : Type 0 where
  pub clear : ℕ
  pub free : is_clear (take clear blocks) es ≡ true
  pub stacked : IsStacked blocks sizes old (length blocks) clear es stack numbers new

-- blocks without the samples of some series at times from `from` to `to`: some first ones, and all others in one
pub record IsCut (ids : List ℕ) (from to : ℤ) (blocks : List Entries) (sizes : List ℕ) (old : Order) (stack : List Entries) (numbers : List ℕ) (new : Order) : Type 0 where
  pub kept : ℕ
  pub clear : ℕ
  pub stacked : IsStacked (map (cut_by ids from to) blocks) sizes old kept clear [] stack numbers new
