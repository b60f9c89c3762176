-- A snapshot: a tenant's series with their samples. New series stand at the end, and none goes. This project's own.
use Rattle.std.specs.Prelude.{◌≡◌, ℕ, ◌+◌, ◌<◌, ◌^◌, ℤ, pos, negsuc, Bool, true, not, ◌&&◌, cond, Option, None, Some, is_some, List, [], ◌∷◌, ◌++◌, length, filter, map, slice_set, slice_index_or, nat_eq, nat_le}
use Rattle.std.specs.List.{list_all, list_any}
use Rattle.pf_base.specs.Limits.{greatest_time}
use Rattle.pf_base.specs.declared.plain.Row.{Row}
use Rattle.pf_base.specs.declared.plain.Sample.{Sample}
use Rattle.pf_base.specs.LabelSets.{Pairs}
use Rattle.pf_block.specs.Samples.{is_series, value_at, put_sample, is_outside}
use Rattle.pf_block.specs.SeriesIds.{id_of}

-- the labels of the series by id, and their samples by id, each series' in order of time
pub record SnapData : Type 0 where
  pub labels : List Pairs
  pub samples : List (List Sample)

abbrev pub empty_snap : SnapData
empty_snap = record { labels = []; samples = [] }

-- no two series have equal labels
abbrev pub are_apart : List Pairs → Bool
are_apart [] = true
are_apart (l ∷ ls) = not (is_some (id_of l ls)) && are_apart ls

-- what every snapshot is
pub record IsSnap (s : SnapData) : Type 0 where
  pub apart : are_apart s.labels ≡ true
  pub alike : length s.samples ≡ length s.labels
  pub lawful : list_all is_series s.samples ≡ true
  pub few : length s.labels < 2 ^ 32

abbrev pub labels_of : SnapData → ℕ → Pairs
labels_of s id = slice_index_or s.labels id []

abbrev pub samples_of : SnapData → ℕ → List Sample
samples_of s id = slice_index_or s.samples id []

-- the value that a series holds at a time
abbrev pub held_at : SnapData → ℕ → ℕ → Option ℤ
held_at s id time = value_at (samples_of s id) (pos time)

-- the value that the series of these labels holds at a time, none where there is no such series
abbrev pub held_by : SnapData → Option ℕ → ℕ → Option ℤ
held_by s None time = None
held_by s (Some id) time = held_at s id time

abbrev pub held_of : SnapData → Pairs → ℕ → Option ℤ
held_of s labels time = held_by s (id_of labels s.labels) time

-- a row as a sample
abbrev pub sample_of : Row → Sample
sample_of r = record { time = pos r.time; value = r.value }

-- a row put among the samples of its series, or as a new series at the end
abbrev pub put_into : SnapData → Row → Option ℕ → SnapData
put_into s r None = record { labels = s.labels ++ r.labels ∷ []; samples = s.samples ++ (sample_of r ∷ []) ∷ [] }
put_into s r (Some id) = record { labels = s.labels; samples = slice_set s.samples id (put_sample (sample_of r) (samples_of s id)) }

abbrev pub put_row : SnapData → Row → SnapData
put_row s r = put_into s r (id_of r.labels s.labels)

-- the rows put in one after another
abbrev pub with_rows : SnapData → List Row → SnapData
with_rows s [] = s
with_rows s (r ∷ rs) = with_rows (put_row s r) rs

-- no row's series and time are held, also not by a row before it
abbrev pub are_new : SnapData → List Row → Bool
are_new s [] = true
are_new s (r ∷ rs) = not (is_some (held_of s r.labels r.time)) && are_new (put_row s r) rs

-- times that rows may have, in milliseconds
abbrev pub are_timed : List Row → Bool
are_timed rows = list_all (λ r. nat_le r.time greatest_time) rows

-- the samples of the named series outside [from, to], and those of the others; the first list is of the id `first`
abbrev pub cut_from : ℕ → List ℕ → ℤ → ℤ → List (List Sample) → List (List Sample)
cut_from first series from to [] = []
cut_from first series from to (xs ∷ xss) =
    cond (list_any (nat_eq first) series) (filter (is_outside from to) xs) xs ∷ cut_from (first + 1) series from to xss

abbrev pub without_rows : SnapData → List ℕ → ℕ → ℕ → SnapData
without_rows s series from to = record { labels = s.labels; samples = cut_from 0 series (pos from) (pos to) s.samples }

-- the rows of a snapshot, series by series
abbrev pub row_of : Pairs → Sample → Row
row_of labels s = record { labels = labels; time = time_of s.time; value = s.value } where
  time_of : ℤ → ℕ
  time_of (pos n) = n
  time_of (negsuc n) = 0

abbrev pub rows_by : List Pairs → List (List Sample) → List Row
rows_by [] xss = []
rows_by (l ∷ ls) [] = []
rows_by (l ∷ ls) (xs ∷ xss) = map (row_of l) xs ++ rows_by ls xss

abbrev pub rows_of : SnapData → List Row
rows_of s = rows_by s.labels s.samples
