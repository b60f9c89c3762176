-- Label sets. Prometheus, Data model: Metric names and labels.
use Rattle.std.specs.Prelude.{◌≡◌, ℕ, ◌<◌, ◌^◌, ◌&&◌, ◌||◌, Bool, true, false, not, cond, List, [], ◌∷◌, length, slice_index_or, nat_eq, nat_le}
use Rattle.std.specs.Ordering.{nat_cmp, is_lt}
use Rattle.std.specs.Cmp.Lexicographic.{slice_cmp}
use Rattle.std.specs.List.{list_all}
use Rattle.std.specs.Str.{bytes_eq}

-- pairs of a name and a value, each a list of bytes
abbrev pub Pairs : Type 0
Pairs = List (List ℕ × List ℕ)

-- each name is above the one before it
abbrev pub rises_after : List ℕ → Pairs → Bool
rises_after name [] = true
rises_after name (p ∷ ps) = is_lt (slice_cmp nat_cmp name p.0) && rises_after p.0 ps

abbrev pub rises : Pairs → Bool
rises [] = true
rises (p ∷ ps) = rises_after p.0 ps

abbrev pub is_empty : List ℕ → Bool
is_empty [] = true
is_empty (b ∷ bs) = false

-- a letter or `_`
abbrev pub starts_name : ℕ → Bool
starts_name b = (nat_le 65 b && nat_le b 90) || (nat_le 97 b && nat_le b 122) || nat_eq b 95

-- a letter, a digit or `_`
abbrev pub goes_on : ℕ → Bool
goes_on b = starts_name b || (nat_le 48 b && nat_le b 57)

-- `[a-zA-Z_][a-zA-Z0-9_]*`
abbrev pub is_label_name : List ℕ → Bool
is_label_name [] = false
is_label_name (b ∷ bs) = starts_name b && list_all goes_on bs

-- what each pair of a label set is
abbrev pub is_named : List ℕ × List ℕ → Bool
is_named p = is_label_name p.0

abbrev pub has_value : List ℕ × List ℕ → Bool
has_value p = not (is_empty p.1)

-- a label set: names that rise, each a label name, and no empty value; their number fits 32 bits
pub record IsLabels (ps : Pairs) : Type 0 where
  pub rising : rises ps ≡ true
  pub full : list_all has_value ps ≡ true
  pub named : list_all is_named ps ≡ true
  pub few : length ps < 2 ^ 32

-- the value of a name, empty where the set has none
abbrev pub value_of : Pairs → List ℕ → List ℕ
value_of [] name = []
value_of (p ∷ ps) name = cond (bytes_eq p.0 name) p.1 (value_of ps name)

-- the two parts of the pair at a place
abbrev pub name_at : Pairs → ℕ → List ℕ
name_at ps i = (slice_index_or ps i ([], [])).0

abbrev pub value_at : Pairs → ℕ → List ℕ
value_at ps i = (slice_index_or ps i ([], [])).1
