-- Indexes on one another, the newest last: the ids of each follow those of the one below it. This project's own.
use Rattle.std.specs.Prelude.{◌≡◌, ℕ, ◌+◌, ◌<◌, ◌^◌, true, List, [], ◌∷◌, ◌++◌, length, take, slice_index_or}
use Rattle.std.specs.List.{All}
use Rattle.pf_base.specs.LabelSets.{IsLabels, Pairs}
use Rattle.pf_block.specs.Snaps.{are_apart}

-- the series of several indexes by their ids
abbrev pub joined : List (List Pairs) → List Pairs
joined [] = []
joined (l ∷ ls) = l ++ joined ls

-- what the indexes of every snapshot are
pub record IsIndexStack (layers : List (List Pairs)) (count : ℕ) : Type 0 where
  pub apart : are_apart (joined layers) ≡ true
  pub lawful : All IsLabels (joined layers)
  pub counted : count ≡ length (joined layers)
  pub few : length (joined layers) < 2 ^ 32

-- the series of an id is the one that has the id `local` in the index at a place
pub record IsPlace (layers : List (List Pairs)) (id place local : ℕ) : Type 0 where
  pub there : place < length layers
  pub within : local < length (slice_index_or layers place [])
  pub behind : length (joined (take place layers)) + local ≡ id

-- what is left of the ids of a pair: some of an index whose series begin at `first`, and those of further indexes, which
-- begin at `behind`
pub record ArePostings (rest : List ℕ) (first behind : ℕ) (more : List (List Pairs)) : Type 0 where
  pub few : behind + length (joined more) < 2 ^ 32
  pub within : All (λ id. first + id < 2 ^ 32) rest
  pub count : length rest + length (joined more) < 2 ^ 32

-- further series at the end of others: all differ, and there is an id for each
pub record AreBehind (labels new : List Pairs) : Type 0 where
  pub apart : are_apart (labels ++ new) ≡ true
  pub few : length (labels ++ new) < 2 ^ 32
