-- How the pairs of a label set lie: their names and values one after another in one text, beside the places where each
-- begins and ends. This project's own.
use Rattle.std.specs.Prelude.{◌≡◌, ℕ, ◌+◌, ◌<◌, ◌^◌, List, [], ◌∷◌, ◌++◌, length, slice_range}
use Rattle.std.specs.List.{All}
use Rattle.std.specs.Str.{IsCharBoundary}
use Rattle.pf_base.specs.LabelChanges.{metric_name, others}
use Rattle.pf_base.specs.LabelSets.{Pairs}
use Rattle.pf_base.specs.ShardHash.{labels_hash}

-- the pairs of which the first name begins at this place, and the names and values end at those
abbrev pub pairs_after : List ℕ → ℕ → List ℕ → Pairs
pairs_after text start [] = []
pairs_after text start (a ∷ []) = []
pairs_after text start (a ∷ b ∷ ends) = (slice_range text start a, slice_range text a b) ∷ pairs_after text b ends

-- the pairs of a text with these bounds: where the first name begins, and where each name and each value ends
abbrev pub pairs_in : List ℕ → List ℕ → Pairs
pairs_in text [] = []
pairs_in text (start ∷ ends) = pairs_after text start ends

-- the names and values one after another
abbrev pub joined : Pairs → List ℕ
joined [] = []
joined (p ∷ ps) = p.0 ++ (p.1 ++ joined ps)

abbrev pub ends_after : ℕ → Pairs → List ℕ
ends_after start [] = []
ends_after start (p ∷ ps) =
    (start + length p.0) ∷ (start + length p.0 + length p.1) ∷ ends_after (start + length p.0 + length p.1) ps

abbrev pub bounds_of : Pairs → List ℕ
bounds_of ps = 0 ∷ ends_after 0 ps

-- these pairs, packed: their text, its bounds, at each of which a character begins or the text ends, and the hash
-- of all but the metric name's
pub record IsPacked (ps : Pairs) (text bounds : List ℕ) (hash : ℕ) : Type 0 where
  pub text_is : text ≡ joined ps
  pub bounds_are : bounds ≡ bounds_of ps
  pub cuts : All (IsCharBoundary text) bounds
  pub hashed : hash ≡ labels_hash (others metric_name ps)
  pub few : length ps < 2 ^ 32
