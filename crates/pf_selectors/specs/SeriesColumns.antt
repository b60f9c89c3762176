-- The columns that selectors read of the series of a snapshot. Prometheus, Querying basics: Time series selectors; Query
-- functions.
use Rattle.std.specs.Prelude.{ℕ, ℤ, pos, ◌-ℤ◌, Option, None, option_map, List, [], ◌∷◌}
use Rattle.pf_base.specs.Limits.{lookback}
use Rattle.pf_base.specs.declared.plain.Sample.{Sample}
use Rattle.pf_base.specs.LabelSets.{Pairs}
use Rattle.pf_block.specs.Samples.{last_of, window_of}
use Rattle.pf_block.specs.Snaps.{SnapData, labels_of, samples_of}
use Rattle.pf_columns.specs.Columns.{ColumnData}
use Rattle.pf_model.specs.declared.functions.RangeFn.{RangeFn}
use Rattle.pf_model.specs.Cells.{without_name}
use Rattle.pf_model.specs.Merging.{below}
use Rattle.pf_model.specs.Micros.{seconds}
use Rattle.pf_model.specs.Outcomes.{ranged_labels}
use Rattle.pf_model.specs.RangeFunctions.{range_function}
use Rattle.pf_selectors.specs.declared.instant.Reading.{Reading}
use Rattle.pf_selectors.specs.declared.instant.Reading.TheVariants as reading
use Rattle.pf_selectors.specs.declared.times.Times.{Times}
use Rattle.pf_selectors.specs.Times.{time_at}

-- the last sample in the look-back of a time
abbrev pub read_at : List Sample → ℤ → Option Sample
read_at samples t = last_of (window_of samples (t -ℤ pos lookback) t)

-- what is read of a sample: its value, or its time in seconds; then the metric name is dropped
abbrev pub value_read : Reading → Sample → ℤ
value_read reading.Value s = s.value
value_read reading.Time s = seconds s.time

abbrev pub labels_read : Reading → Pairs → Pairs
labels_read reading.Value labels = labels
labels_read reading.Time labels = without_name labels

-- what is read of a series at each step
abbrev pub values_read : Reading → List Sample → Times → List (Option ℤ)
values_read r samples times = below (λ k. option_map (value_read r) (read_at samples (time_at times k))) times.len

abbrev pub read_column : Reading → SnapData → Times → ℕ → ColumnData
read_column r s times id = record { labels = labels_read r (labels_of s id); values = values_read r (samples_of s id) times }

-- the values of a series at each step, as an instant selector reads them
abbrev pub series_column : SnapData → Times → ℕ → ColumnData
series_column s times id =
    record { labels = labels_of s id; values = below (λ k. option_map (λ x. x.value) (read_at (samples_of s id) (time_at times k))) times.len }

-- the window of so many milliseconds before a step, and a function of it
abbrev pub window_at : ℕ → List Sample → Times → ℕ → List Sample
window_at range samples times k = window_of samples (time_at times k -ℤ pos range) (time_at times k)

abbrev pub values_over : RangeFn → ℕ → List Sample → Times → List (Option ℤ)
values_over f range samples times =
    below (λ k. range_function f (window_at range samples times k) (time_at times k -ℤ pos range) (time_at times k)) times.len

abbrev pub range_column : RangeFn → ℕ → SnapData → Times → ℕ → ColumnData
range_column f range s times id =
    record { labels = ranged_labels f (labels_of s id); values = values_over f range (samples_of s id) times }

-- a value, unless there are samples
abbrev pub unless_some : List Sample → Option ℤ → Option ℤ
unless_some [] v = v
unless_some (s ∷ ss) v = None

-- a value, unless some series has samples in the window before a step
abbrev pub unless_present : ℕ → SnapData → Times → ℕ → List ℕ → Option ℤ → Option ℤ
unless_present range s times k [] v = v
unless_present range s times k (id ∷ ids) v =
    unless_present range s times k ids (unless_some (window_at range (samples_of s id) times k) v)
