-- A block with what deletions left of it. This project's own.
use Rattle.std.specs.Prelude.{◌≡◌, ℕ, ℤ, Bool, true, not, ◌||◌, Option, None, Some, List, [], ◌∷◌, filter, map, nat_eq}
use Rattle.std.specs.BTreeMap.{BTreeMap, get}
use Rattle.std.specs.List.{list_any}
use Rattle.std.specs.Ordering.{int_eq, nat_cmp}
use Rattle.pf_base.specs.declared.plain.Sample.{Sample}
use Rattle.pf_block.specs.Blocks.{Entries, ascends, samples_in}
use Rattle.pf_block.specs.Samples.{is_outside}

-- for each series of which a sample was deleted, what is left of it
abbrev pub Parts : Type 0
Parts = BTreeMap ℕ (List Sample)

-- what is left of a series that has these samples in the block
abbrev pub left_by : Option (List Sample) → List Sample → List Sample
left_by None samples = samples
left_by (Some left) samples = left

abbrev pub left_in : Parts → Entries → ℕ → List Sample
left_in parts es id = left_by (get nat_cmp parts id) (samples_in id es)

-- a sample has this time
abbrev pub has_time : List Sample → ℤ → Bool
has_time samples time = list_any (λ s. int_eq s.time time) samples

-- an entry of the block is left
abbrev pub stays_by : Option (List Sample) → ℤ → Bool
stays_by None time = true
stays_by (Some left) time = has_time left time

abbrev pub stays : Parts → ℕ × Sample → Bool
stays parts e = stays_by (get nat_cmp parts e.0) e.1.time

-- what is left of a block
abbrev pub left : Entries → Parts → Entries
left es parts = filter (stays parts) es

pub record IsLayer (es : Entries) (parts : Parts) : Type 0 where
  pub sorted : ascends (left es parts) ≡ true
  pub series : (id : ℕ) → samples_in id (left es parts) ≡ left_in parts es id

-- samples with the id of their series
abbrev pub labelled : ℕ → List Sample → Entries
labelled id samples = map (λ s. (id, s)) samples

-- an entry that stays where the samples of a series at times from `from` to `to` go
abbrev pub is_spared : ℕ → ℤ → ℤ → ℕ × Sample → Bool
is_spared id from to e = not (nat_eq id e.0) || is_outside from to e.1

-- the same for several series
abbrev pub cut_by : List ℕ → ℤ → ℤ → Entries → Entries
cut_by [] from to es = es
cut_by (i ∷ is) from to es = cut_by is from to (filter (is_spared i from to) es)
