-- The columns of series that are read one after another have the label sets of these series.
use Rattle.std.proofs.Common.{◌≡◌, ℕ, List, [], ◌∷◌, map, refl, ap}
use Rattle.pf_block.specs.Snaps.{SnapData, labels_of}
use Rattle.pf_columns.specs.Columns.{columns_labels}
use Rattle.pf_selectors.specs.declared.times.Times.{Times}
use Rattle.pf_selectors.specs.SeriesColumns.{series_column}

pub series_labels : (s : SnapData) (times : Times) (ids : List ℕ) → columns_labels (map (series_column s times) ids) ≡ map (labels_of s) ids
series_labels s times [] = refl
series_labels s times (id ∷ ids) = ap (λ ls. labels_of s id ∷ ls) (series_labels s times ids)
