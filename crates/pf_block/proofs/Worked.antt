-- Examples of the definitions, which the checker computes.
use Rattle.std.specs.Prelude.{◌≡◌, ℕ, pos, List, [], ◌∷◌, Some, None, true, false, codes, refl}
use Rattle.pf_base.specs.declared.plain.Row.{Row}
use Rattle.pf_base.specs.declared.plain.Sample.{Sample}
use Rattle.pf_base.specs.LabelSets.{Pairs}
use Rattle.std.proofs.Common.{arith}
use Rattle.pf_block.specs.Blocks.{Entries}
use Rattle.pf_block.specs.IndexStacks.{IsPlace, joined}
use Rattle.pf_block.specs.Samples.{window_of, last_of, later_of, rises, stretch_of}
use Rattle.pf_block.specs.LabelOrders.{ids_by_label, in_label_order, rise_from}
use Rattle.pf_block.specs.SeriesIds.{id_of, ids_with}
use Rattle.pf_block.specs.Snaps.{SnapData, empty_snap, with_rows, without_rows, held_of, are_new, rows_of}
use Rattle.pf_block.specs.Stacks.{is_clear, joined_in, order_on, series_in}

abbrev first : Pairs
first = (codes "__name__", codes "up") ∷ (codes "job", codes "a") ∷ []

abbrev second : Pairs
second = (codes "__name__", codes "up") ∷ (codes "job", codes "b") ∷ []

abbrev row : Pairs → ℕ → ℕ → Row
row labels time micros = record { labels = labels; time = time; value = pos micros }

abbrev sample : ℕ → ℕ → Sample
sample time micros = record { time = pos time; value = pos micros }

-- rows that come out of order
abbrev given : List Row
given = row first 60000 1 ∷ row second 60000 2 ∷ row first 180000 3 ∷ row first 120000 4 ∷ []

abbrev filled : SnapData
filled = with_rows empty_snap given

ordered : filled ≡ record {
  labels = first ∷ second ∷ [];
  samples = (sample 60000 1 ∷ sample 120000 4 ∷ sample 180000 3 ∷ []) ∷ (sample 60000 2 ∷ []) ∷ [];
}
ordered = refl

listed : rows_of filled ≡ row first 60000 1 ∷ row first 120000 4 ∷ row first 180000 3 ∷ row second 60000 2 ∷ []
listed = refl

new : are_new empty_snap given ≡ true
new = refl

-- a row that stands twice
twice : are_new empty_snap (row first 60000 1 ∷ row second 60000 2 ∷ row first 60000 1 ∷ []) ≡ false
twice = refl

found : id_of second filled.labels ≡ Some 1
found = refl

not_found : id_of [] filled.labels ≡ None
not_found = refl

pairs : ids_with (codes "__name__") (codes "up") filled.labels ≡ 0 ∷ 1 ∷ []
pairs = refl

no_value : ids_with (codes "zone") [] filled.labels ≡ []
no_value = refl

held : held_of filled first 120000 ≡ Some (pos 4)
held = refl

-- open at the left end, closed at the right
window : window_of (sample 60000 1 ∷ sample 120000 4 ∷ sample 180000 3 ∷ []) (pos 60000) (pos 180000) ≡ sample 120000 4 ∷ sample 180000 3 ∷ []
window = refl

last : last_of (window_of (sample 60000 1 ∷ sample 120000 4 ∷ []) (pos 60000) (pos 119999)) ≡ None
last = refl

-- both ends are cut out, of the named series alone, and an unknown id is none
cut : without_rows filled (0 ∷ 7 ∷ []) 60000 120000 ≡ record { labels = first ∷ second ∷ []; samples = (sample 180000 3 ∷ []) ∷ (sample 60000 2 ∷ []) ∷ [] }
cut = refl

-- the series that came last stands first
by_label : ids_by_label (second ∷ first ∷ []) ≡ 1 ∷ 0 ∷ []
by_label = refl

-- a block, and one whose first series has a late sample
abbrev blocks : List Entries
blocks = ((0, sample 60000 1) ∷ (0, sample 180000 3) ∷ (1, sample 60000 2) ∷ []) ∷ ((0, sample 120000 4) ∷ (1, sample 90000 5) ∷ []) ∷ []

by_time : series_in 0 blocks ≡ sample 60000 1 ∷ sample 120000 4 ∷ sample 180000 3 ∷ []
by_time = refl

late : rises (joined_in 0 blocks) ≡ false
late = refl

in_time : joined_in 1 blocks ≡ series_in 1 blocks
in_time = refl

not_clear : is_clear (((0, sample 60000 1) ∷ (0, sample 180000 3) ∷ []) ∷ []) ((0, sample 120000 4) ∷ []) ≡ false
not_clear = refl

-- of four blocks in order two stay, and the further one comes late behind the second, and then behind none
loose : order_on (record { ordered = 4; clear = 4 }) 1 2 3 ≡ record { ordered = 2; clear = 1 }
loose = refl

in_order : order_on (record { ordered = 2; clear = 1 }) 3 1 2 ≡ record { ordered = 2; clear = 2 }
in_order = refl

-- what is read first of two lists
first_read : stretch_of (sample 60000 1 ∷ sample 180000 3 ∷ []) (sample 120000 4 ∷ []) ≡ sample 60000 1 ∷ []
first_read = refl

last_read : later_of (Some (sample 180000 3)) (Some (sample 120000 4)) ≡ Some (sample 180000 3)
last_read = refl

-- some series, given by rising id
order : in_label_order (second ∷ first ∷ []) (0 ∷ 1 ∷ []) ≡ 1 ∷ 0 ∷ []
order = refl

rising : rise_from 0 (0 ∷ 2 ∷ []) ≡ true
rising = refl

-- an id that stands twice
not_rising : rise_from 0 (1 ∷ 1 ∷ []) ≡ false
not_rising = refl

-- two indexes: the ids of the second follow those of the first
two : joined ((first ∷ []) ∷ (second ∷ []) ∷ []) ≡ first ∷ second ∷ []
two = refl

second_place : IsPlace ((first ∷ []) ∷ (second ∷ []) ∷ []) 1 1 0
second_place = record { there = omega arith; within = omega arith; behind = refl }
