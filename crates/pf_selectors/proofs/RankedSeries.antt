-- Series one after another whose label sets rise.
use Rattle.std.proofs.Common.{◌≡◌, ℕ, ◌+◌, ◌<◌, ◌&&◌, Bool, true, Option, Some, None, List, [], ◌∷◌, length, map, drop, get_or, refl, sym, ap, ◌∙◌}
use Rattle.std.proofs.lemmas.List.{drop_more}
use Rattle.pf_base.specs.LabelSets.{Pairs}
use Rattle.pf_block.specs.Snaps.{SnapData, labels_of}
use Rattle.pf_columns.specs.Columns.{columns_labels}
use Rattle.pf_columns.specs.Steps.{is_above, rise_above}
use Rattle.pf_selectors.specs.SeriesColumns.{read_column}
use Rattle.pf_selectors.specs.declared.instant.Reading.TheVariants as reading
use Rattle.pf_selectors.specs.declared.times.Times.{Times}

-- whether those of some series rise, from one on
abbrev pub rise_from : SnapData → List ℕ → Option Pairs → ℕ → Bool
rise_from s ids o i = rise_above o (map (labels_of s) (drop i ids))

-- one more that is above the last
pub next_above : (s : SnapData) (ids : List ℕ) (i : ℕ) (o : Option Pairs) → i < length ids → is_above o (labels_of s (get_or ids i 0)) ≡ true
    → rise_from s ids (Some (labels_of s (get_or ids i 0))) (i + 1) ≡ rise_from s ids o i
next_above s ids i o lt above =
    ap (λ b. b && rise_from s ids (Some (labels_of s (get_or ids i 0))) (i + 1)) (sym above)
    ∙ ap (λ is. rise_above o (map (labels_of s) is)) (sym (drop_more ids i 0 lt))

-- ---- what is read of them

pub rise_as_read : (s : SnapData) (ids : List ℕ) (times : Times) → rise_above None (map (labels_of s) ids) ≡ true
    → rise_above None (columns_labels (map (read_column reading.Value s times) ids)) ≡ true
rise_as_read s ids times h = ap (rise_above None) (same ids) ∙ h where
  same : (is : List ℕ) → columns_labels (map (read_column reading.Value s times) is) ≡ map (labels_of s) is
  same [] = refl
  same (i ∷ is) = ap (λ ls. labels_of s i ∷ ls) (same is)
