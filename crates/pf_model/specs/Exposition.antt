-- What an exposition file means. Prometheus, Exposition formats, the text-based format. This project's own are the bounds,
-- the numbers, that a timestamp has no sign, and which fault a file is refused for.
use Rattle.std.specs.Prelude.{◌≡◌, ℕ, suc, ◌+◌, ◌<◌, ◌≤◌, Bool, true, false, ◌&&◌, ◌||◌, not, min, Option, Some, None, IfSome, Result, Ok, Err, cond, List, [], ◌∷◌, ◌++◌, length, codes, nat_eq}
use Rattle.std.specs.List.{list_all}
use Rattle.std.specs.Char.{is_ascii_digit}
use Rattle.std.specs.Str.{IsUtf8}
use Rattle.pf_base.specs.Batches.{BatchData}
use Rattle.pf_base.specs.LabelBuild.{build_of}
use Rattle.pf_base.specs.LabelSets.{Pairs, is_empty, is_label_name, starts_name, goes_on}
use Rattle.pf_base.specs.Limits.{greatest_time, most_samples}
use Rattle.pf_base.specs.NumberTexts.{Reads, number_after}
use Rattle.pf_base.specs.declared.number.Read.{Read}
use Rattle.pf_base.specs.declared.number.Read.TheVariants.{Number, NotANumber}
use Rattle.pf_base.specs.declared.plain.Row.{Row}

-- ---- lines

abbrev pub begins_with : ℕ → List ℕ → Bool
begins_with b [] = false
begins_with b (c ∷ cs) = nat_eq c b

abbrev pub onto_first : ℕ → List (List ℕ) → List (List ℕ)
onto_first b [] = (b ∷ []) ∷ []
onto_first b (l ∷ ls) = (b ∷ l) ∷ ls

-- the lines of a file: a line feed ends each, and the last may lack it; a carriage return next before a line feed is dropped
abbrev pub file_lines : List ℕ → List (List ℕ)
file_lines [] = []
file_lines (b ∷ bs) =
    cond (nat_eq b 10) ([] ∷ file_lines bs)
    (cond (nat_eq b 13 && begins_with 10 bs) (file_lines bs) (onto_first b (file_lines bs)))

-- the number of the line behind so many others; every line past the greatest number has that number
abbrev pub line_number : ℕ → ℕ
line_number before = min (before + 1) 4294967295

-- ---- words

-- a space or a tab
abbrev pub is_blank : ℕ → Bool
is_blank b = nat_eq b 32 || nat_eq b 9

abbrev pub is_no_blank : ℕ → Bool
is_no_blank b = not (is_blank b)

abbrev pub are_blanks : List ℕ → Bool
are_blanks bs = list_all is_blank bs

-- one blank or more
abbrev pub is_gap : List ℕ → Bool
is_gap bs = not (is_empty bs) && list_all is_blank bs

-- one byte or more, and no blank
abbrev pub is_word : List ℕ → Bool
is_word bs = not (is_empty bs) && list_all is_no_blank bs

-- one digit or more
abbrev pub are_digits : List ℕ → Bool
are_digits bs = not (is_empty bs) && list_all is_ascii_digit bs

-- `[a-zA-Z_:][a-zA-Z0-9_:]*`
abbrev pub starts_metric : ℕ → Bool
starts_metric b = starts_name b || nat_eq b 58

abbrev pub goes_on_metric : ℕ → Bool
goes_on_metric b = goes_on b || nat_eq b 58

abbrev pub is_metric_name : List ℕ → Bool
is_metric_name [] = false
is_metric_name (b ∷ bs) = starts_metric b && list_all goes_on_metric bs

-- the label that holds the metric name
abbrev pub name_label : List ℕ
name_label = codes "__name__"

-- ---- skipped lines: blanks alone, or `#` behind blanks and anything behind it

pub data IsSkipped (line : List ℕ) : Type 0 where
  blank : are_blanks line ≡ true → IsSkipped line
  comment : (before behind : List ℕ) → are_blanks before ≡ true → line ≡ before ++ (35 ∷ behind) → IsSkipped line

-- ---- labels

-- a byte of a label's value as it is written: `\\`, `\"`, `\n`, and any other as itself
abbrev pub escape : ℕ → List ℕ
escape b = cond (nat_eq b 92) (92 ∷ (92 ∷ [])) (cond (nat_eq b 34) (92 ∷ (34 ∷ [])) (cond (nat_eq b 10) (92 ∷ (110 ∷ [])) (b ∷ [])))

abbrev pub escaped : List ℕ → List ℕ
escaped [] = []
escaped (b ∷ bs) = escape b ++ escaped bs

-- a label: its name, `=`, and its value in double quotes, with blanks round each
pub record Label : Type 0 where
  pub before : List ℕ
  pub name : List ℕ
  pub before_sign : List ℕ
  pub behind_sign : List ℕ
  pub value : List ℕ
  pub behind : List ℕ

abbrev pub label_text : Label → List ℕ
label_text l = l.before ++ (l.name ++ (l.before_sign ++ (61 ∷ (l.behind_sign ++ (34 ∷ (escaped l.value ++ (34 ∷ l.behind)))))))

pub record IsLabel (l : Label) : Type 0 where
  pub before : are_blanks l.before ≡ true
  pub name : is_label_name l.name ≡ true
  pub before_sign : are_blanks l.before_sign ≡ true
  pub behind_sign : are_blanks l.behind_sign ≡ true
  pub value : IsUtf8 l.value
  pub behind : are_blanks l.behind ≡ true

abbrev pub AreLabels : List Label → Type 0
AreLabels [] = Unit {0}
AreLabels (l ∷ ls) = IsLabel l × AreLabels ls

-- behind the first label: each with a comma before it, then perhaps one more comma with blanks behind it, then `}`
abbrev pub more_text : List Label → Option (List ℕ) → List ℕ
more_text [] None = 125 ∷ []
more_text [] (Some blanks) = 44 ∷ (blanks ++ 125 ∷ [])
more_text (l ∷ ls) comma = 44 ∷ (label_text l ++ more_text ls comma)

-- labels in braces: none, or one and more
pub data Braces : Type 0 where
  empty : List ℕ → Braces
  full : Label → List Label → Option (List ℕ) → Braces

abbrev pub braces_text : Braces → List ℕ
braces_text (empty blanks) = 123 ∷ (blanks ++ 125 ∷ [])
braces_text (full l ls comma) = 123 ∷ (label_text l ++ more_text ls comma)

abbrev pub AreBraces : Braces → Type 0
AreBraces (empty blanks) = are_blanks blanks ≡ true
AreBraces (full l ls comma) = IsLabel l × (AreLabels ls × IfSome comma (λ blanks. are_blanks blanks ≡ true))

abbrev pub pairs_of : List Label → Pairs
pairs_of [] = []
pairs_of (l ∷ ls) = (l.name, l.value) ∷ pairs_of ls

abbrev pub braces_pairs : Braces → Pairs
braces_pairs (empty blanks) = []
braces_pairs (full l ls comma) = pairs_of (l ∷ ls)

-- between the metric name and the value: one blank or more, or labels with blanks round them
pub data Middle : Type 0 where
  bare : List ℕ → Middle
  labelled : List ℕ → Braces → List ℕ → Middle

abbrev pub middle_text : Middle → List ℕ
middle_text (bare gap) = gap
middle_text (labelled before braces behind) = before ++ (braces_text braces ++ behind)

abbrev pub IsMiddle : Middle → Type 0
IsMiddle (bare gap) = is_gap gap ≡ true
IsMiddle (labelled before braces behind) = (are_blanks before ≡ true) × (AreBraces braces × (are_blanks behind ≡ true))

abbrev pub middle_pairs : Middle → Pairs
middle_pairs (bare gap) = []
middle_pairs (labelled before braces behind) = braces_pairs braces

-- ---- sample lines

-- a timestamp: digits, with one blank or more before them
pub record Stamp : Type 0 where
  pub gap : List ℕ
  pub digits : List ℕ

pub record IsStamp (s : Stamp) : Type 0 where
  pub gap : is_gap s.gap ≡ true
  pub digits : are_digits s.digits ≡ true

abbrev pub stamp_text : Option Stamp → List ℕ
stamp_text None = []
stamp_text (Some s) = s.gap ++ s.digits

-- the parts of a sample line: blanks, a metric name, labels or none, a number, a timestamp or none, blanks
pub record Parts : Type 0 where
  pub before : List ℕ
  pub name : List ℕ
  pub middle : Middle
  pub number : List ℕ
  pub stamp : Option Stamp
  pub behind : List ℕ

abbrev pub parts_text : Parts → List ℕ
parts_text p = p.before ++ (p.name ++ (middle_text p.middle ++ (p.number ++ (stamp_text p.stamp ++ p.behind))))

pub record AreParts (p : Parts) : Type 0 where
  pub before : are_blanks p.before ≡ true
  pub name : is_metric_name p.name ≡ true
  pub middle : IsMiddle p.middle
  pub number : is_word p.number ≡ true
  pub stamp : IfSome p.stamp IsStamp
  pub behind : are_blanks p.behind ≡ true

-- the metric name as a label, and the others
abbrev pub parts_pairs : Parts → Pairs
parts_pairs p = (name_label, p.name) ∷ middle_pairs p.middle

-- the time in milliseconds, and another one where none is written
abbrev pub time_of : ℕ → Option Stamp → ℕ
time_of default None = default
time_of default (Some s) = number_after 0 s.digits

-- a line is a sample with these labels, this value and this time
pub record IsSample (default : ℕ) (line : List ℕ) (labels : Pairs) (value : Read) (time : ℕ) : Type 0 where
  pub parts : Parts
  pub lawful : AreParts parts
  pub spelled : line ≡ parts_text parts
  pub built : build_of (parts_pairs parts) ≡ Ok labels
  pub read : Reads parts.number value
  pub timed : time ≡ time_of default parts.stamp

-- ---- what a line gives

pub data Given : Type 0 where
  nothing : Given
  no_number : Given
  sample : Row → Given

pub data LineFault : Type 0 where
  bad : LineFault
  late : LineFault

-- Nothing of a skipped line, a row of a sample line, no row of one whose value is no number. A sample line whose time is
-- too large is late. A line that is neither is bad.
abbrev pub LineGives : ℕ → List ℕ → Result Given LineFault → Type 0
LineGives default line (Ok nothing) = IsSkipped line
LineGives default line (Ok no_number) =
    (labels : Pairs) × (time : ℕ) × (IsSample default line labels NotANumber time × (time ≤ greatest_time))
LineGives default line (Ok (sample row)) = IsSample default line row.labels (Number row.value) row.time × (row.time ≤ greatest_time)
LineGives default line (Err late) =
    (labels : Pairs) × (value : Read) × (time : ℕ) × (IsSample default line labels value time × (greatest_time < time))
LineGives default line (Err bad) =
    (IsSkipped line → ⊥) × ((labels : Pairs) (value : Read) (time : ℕ) → IsSample default line labels value time → ⊥)

-- ---- what a file gives

abbrev pub rows_of : List Given → List Row
rows_of [] = []
rows_of (nothing ∷ gs) = rows_of gs
rows_of (no_number ∷ gs) = rows_of gs
rows_of (sample row ∷ gs) = row ∷ rows_of gs

abbrev pub skipped_of : List Given → ℕ
skipped_of [] = 0
skipped_of (nothing ∷ gs) = skipped_of gs
skipped_of (no_number ∷ gs) = suc (skipped_of gs)
skipped_of (sample row ∷ gs) = skipped_of gs

abbrev pub LinesGive : ℕ → List (List ℕ) → List Given → Type 0
LinesGive default [] [] = Unit {0}
LinesGive default [] (g ∷ gs) = ⊥
LinesGive default (l ∷ ls) [] = ⊥
LinesGive default (l ∷ ls) (g ∷ gs) = LineGives default l (Ok g) × LinesGive default ls gs

-- lines give a batch of at most 2,000,000 rows
pub record Gives (default : ℕ) (lines : List (List ℕ)) (batch : BatchData) : Type 0 where
  pub each : List Given
  pub given : LinesGive default lines each
  pub rows : batch.rows ≡ rows_of each
  pub skipped : batch.skipped ≡ skipped_of each
  pub few : length batch.rows ≤ most_samples

-- why a file is refused
pub data Fault : Type 0 where
  bad_line : Fault
  late_line : Fault
  too_many : Fault

-- a line behind so many rows is at fault
abbrev pub IsAtFault : ℕ → List Row → List ℕ → Fault → Type 0
IsAtFault default before line bad_line = LineGives default line (Err bad)
IsAtFault default before line late_line = LineGives default line (Err late)
IsAtFault default before line too_many = (row : Row) × (LineGives default line (Ok (sample row)) × (most_samples ≤ length before))

-- the lines before one give a batch, and that one, of this number, is at fault
pub record Stops (default : ℕ) (lines : List (List ℕ)) (number : ℕ) (fault : Fault) : Type 0 where
  pub front : List (List ℕ)
  pub line : List ℕ
  pub behind : List (List ℕ)
  pub split : lines ≡ front ++ (line ∷ behind)
  pub batch : BatchData
  pub before : Gives default front batch
  pub stopped : IsAtFault default batch.rows line fault
  pub numbered : number ≡ line_number (length front)
