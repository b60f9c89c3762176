-- What `topk` and `bottomk` keep of the series of an instant selector, group by group: this project's own.
use Rattle.std.specs.Prelude.{ℕ, ℤ, Option, List, map, slice_index_or}
use Rattle.pf_base.specs.LabelSets.{Pairs}
use Rattle.pf_block.specs.Snaps.{SnapData, labels_of}
use Rattle.pf_columns.specs.Columns.{ColumnData}
use Rattle.pf_columns.specs.Ranks.{bare, first_of_group}
use Rattle.pf_columns.specs.declared.ranked.Rank.{Rank}
use Rattle.pf_model.specs.Lists.{joined}
use Rattle.pf_selectors.specs.declared.times.Times.{Times}
use Rattle.pf_selectors.specs.SeriesColumns.{series_column}

-- the column of the series at a place
abbrev pub column_at : SnapData → Times → List ℕ → ℕ → ColumnData
column_at s times ids p = series_column s times (slice_index_or ids p 0)

-- the same, whose labels are not read, and its labels
abbrev pub bare_at : SnapData → Times → List ℕ → ℕ → ColumnData
bare_at s times ids p = bare (column_at s times ids p)

abbrev pub labels_at : SnapData → List ℕ → ℕ → Pairs
labels_at s ids p = labels_of s (slice_index_or ids p 0)

-- what is kept of the series at some places
abbrev pub first_at : Rank → List (Option ℤ) → SnapData → Times → List ℕ → List ℕ → List ColumnData
first_at r params s times ids places = first_of_group r params (map (column_at s times ids) places) times.len

-- the same of each group
abbrev pub each_first : Rank → List (Option ℤ) → SnapData → Times → List ℕ → List (List ℕ) → List ColumnData
each_first r params s times ids buckets = joined (first_at r params s times ids) buckets
