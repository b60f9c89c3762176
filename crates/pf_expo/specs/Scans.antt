-- How a line is taken apart from the left: this project's own. The private functions of the reader compute these; what the
-- reader answers is said by the grammar of Exposition alone.
use Rattle.std.specs.Prelude.{ℕ, zero, suc, Bool, true, false, ◌&&◌, ◌||◌, not, min, Option, Some, None, option_map, option_and_then, cond, List, [], ◌∷◌, ◌++◌, length, nat_eq}
use Rattle.std.specs.Char.{is_ascii_digit}
use Rattle.std.specs.Str.{is_utf8}
use Rattle.pf_base.specs.LabelSets.{Pairs, is_empty, is_label_name, goes_on}
use Rattle.pf_base.specs.NumberTexts.{number_after}
use Rattle.pf_expo.specs.declared.labels.Step.{Step}
use Rattle.pf_expo.specs.declared.labels.Step.TheVariants.{Byte, Backslash, End, Refused}
use Rattle.pf_model.specs.Exposition.{begins_with, is_blank, is_no_blank, goes_on_metric, is_metric_name, name_label}

infixl 10 ◌>>=◌
abbrev pub ◌>>=◌ : {A B : Type 0} → Option A → (A → Option B) → Option B
o >>= f = option_and_then f o

-- a value, if a test holds
abbrev pub kept : {A : Type 0} → Bool → A → Option A
kept b x = cond b (Some x) None

-- bytes that are cut in two
abbrev pub Cut : Type 0
Cut = List ℕ × List ℕ

-- the bytes in front that pass a test, and those behind them
abbrev pub front_of : (ℕ → Bool) → List ℕ → List ℕ
front_of p [] = []
front_of p (b ∷ bs) = cond (p b) (b ∷ front_of p bs) []

abbrev pub past : (ℕ → Bool) → List ℕ → List ℕ
past p [] = []
past p (b ∷ bs) = cond (p b) (past p bs) (b ∷ bs)

-- what stands behind a byte b that begins the bytes
abbrev pub behind_byte : ℕ → List ℕ → Option (List ℕ)
behind_byte b [] = None
behind_byte b (c ∷ cs) = kept (nat_eq c b) cs

-- a label's value up to its quote, and what stands behind the quote; true: behind a backslash
abbrev pub with_byte : ℕ → Option Cut → Option Cut
with_byte b None = None
with_byte b (Some c) = Some (b ∷ c.0, c.1)

abbrev pub step_of : Bool → ℕ → Step
step_of false b = cond (nat_eq b 34) End (cond (nat_eq b 92) Backslash (cond (nat_eq b 10) Refused (Byte b)))
step_of true b = cond (nat_eq b 110) (Byte 10) (cond (nat_eq b 92 || nat_eq b 34) (Byte b) Refused)

abbrev pub stepped : Step → List ℕ → (Bool → Option Cut) → Option Cut
stepped (Byte b) bs behind = with_byte b (behind false)
stepped Backslash bs behind = behind true
stepped End bs behind = Some ([], bs)
stepped Refused bs behind = None

abbrev pub quoted_from : List ℕ → Bool → Option Cut
quoted_from [] escaping = None
quoted_from (b ∷ bs) escaping = stepped (step_of escaping b) bs (quoted_from bs)

unfoldable pub quoted_at : List ℕ → Option Cut
quoted_at bytes = do
  behind ← behind_byte 34 bytes
  found ← quoted_from behind false
  value ← kept (is_utf8 found.0) found.0
  Some (value, found.1)

-- a label name, and what stands behind it
unfoldable pub label_name_at : List ℕ → Option Cut
label_name_at bytes = do
  name ← kept (is_utf8 (front_of goes_on bytes)) (front_of goes_on bytes)
  kept (is_label_name name) (name, past goes_on bytes)

unfoldable pub metric_name_at : List ℕ → Option Cut
metric_name_at bytes = do
  name ← kept (is_utf8 (front_of goes_on_metric bytes)) (front_of goes_on_metric bytes)
  kept (is_metric_name name) (name, past goes_on_metric bytes)

-- behind a label: a comma with blanks behind it, or what begins with `}`
unfoldable pub behind_label : List ℕ → Option (List ℕ)
behind_label [] = None
behind_label (b ∷ bs) = cond (nat_eq b 44) (Some (past is_blank bs)) (kept (nat_eq b 125) (b ∷ bs))

-- a label, and what stands behind it, its comma and the blanks
unfoldable pub label_at : List ℕ → Option ((List ℕ × List ℕ) × List ℕ)
label_at bytes = do
  name ← label_name_at bytes
  quoted ← behind_byte 61 (past is_blank name.1)
  value ← quoted_at (past is_blank quoted)
  behind ← behind_label (past is_blank value.1)
  Some ((name.0, value.0), behind)

-- labels up to `}`, at most so many bytes, and what stands behind
abbrev pub with_pairs : Pairs → Option (Pairs × List ℕ) → Option (Pairs × List ℕ)
with_pairs ps None = None
with_pairs ps (Some x) = Some (ps ++ x.0, x.1)

abbrev pub closed : List ℕ → Option (Pairs × List ℕ)
closed [] = None
closed (b ∷ bs) = Some ([], bs)

unfoldable pub labels_from : ℕ → List ℕ → Option (Pairs × List ℕ)
labels_from zero bytes = None
labels_from (suc n) bytes =
    cond (begins_with 125 bytes) (closed bytes)
    (option_and_then (λ l. with_pairs (l.0 ∷ []) (labels_from n l.1)) (label_at bytes))

unfoldable pub all_labels : List ℕ → Option (Pairs × List ℕ)
all_labels bytes = labels_from (suc (length bytes)) bytes

-- what stands between a metric name and the value, and what stands behind it
abbrev pub begins_blank : List ℕ → Bool
begins_blank [] = false
begins_blank (b ∷ bs) = is_blank b

abbrev pub past_pairs : Pairs × List ℕ → Option (Pairs × List ℕ)
past_pairs x = Some (x.0, past is_blank x.1)

abbrev pub braces_at : List ℕ → Option (Pairs × List ℕ)
braces_at bytes = behind_byte 123 bytes >>= (λ behind. all_labels (past is_blank behind) >>= past_pairs)

unfoldable pub middle_at : List ℕ → Option (Pairs × List ℕ)
middle_at bytes =
    cond (begins_with 123 (past is_blank bytes)) (braces_at (past is_blank bytes))
    (kept (begins_blank bytes) ([], past is_blank bytes))

-- the metric name as a label and the other labels, and what stands behind them
unfoldable pub series_at : List ℕ → Option (Pairs × List ℕ)
series_at bytes = do
  name ← metric_name_at (past is_blank bytes)
  with_pairs ((name_label, name.0) ∷ []) (middle_at name.1)

-- a timestamp's digits, or none; blanks may stand round it, and nothing behind it
abbrev pub stamp_in : List ℕ → Option (Option (List ℕ))
stamp_in bytes =
    cond (is_empty bytes) (Some None)
    (kept (not (is_empty (front_of is_ascii_digit bytes)) && is_empty (past is_blank (past is_ascii_digit bytes)))
    (Some (front_of is_ascii_digit bytes)))

-- a time, at most the first one that is too large
abbrev pub capped : ℕ → ℕ
capped n = min n 4398046511104

abbrev pub capped_time : ℕ → Option (List ℕ) → ℕ
capped_time default None = default
capped_time default (Some digits) = capped (number_after 0 digits)

unfoldable pub time_at : ℕ → List ℕ → Option ℕ
time_at default bytes = option_map (capped_time default) (stamp_in (past is_blank bytes))

-- a sample line, its number unread
pub record Scanned : Type 0 where
  pub pairs : Pairs
  pub number : List ℕ
  pub time : ℕ

unfoldable pub scan : ℕ → List ℕ → Option Scanned
scan default line = do
  middle ← series_at line
  time ← time_at default (past is_no_blank middle.1)
  Some (record { pairs = middle.0; number = front_of is_no_blank middle.1; time = time })

-- a line that is skipped, seen behind its blanks
abbrev pub skips : List ℕ → Bool
skips [] = true
skips (b ∷ bs) = nat_eq b 35
