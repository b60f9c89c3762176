-- The series in front of a line's number, and what stands behind it: this project's own.
use Rattle.std.specs.Prelude.{◌≡◌, ℕ, true, Some, Ok, List, ◌∷◌, ◌++◌}
use Rattle.std.specs.HashMap.{HashMap, get}
use Rattle.std.specs.Str.{bytes_eq}
use Rattle.pf_base.specs.LabelBuild.{build_of}
use Rattle.pf_base.specs.LabelSets.{Pairs}
use Rattle.pf_base.specs.NumberTexts.{Reads}
use Rattle.pf_base.specs.declared.number.Read.{Read}
use Rattle.pf_model.specs.Exposition.{IsMiddle, Middle, are_blanks, is_metric_name, is_no_blank, middle_pairs, middle_text, name_label}
use Rattle.pf_expo.specs.Scans.{front_of, past, time_at}

-- bytes are a series with these labels: blanks, a metric name, and blanks or labels with blanks round them
pub record IsSeries (bytes : List ℕ) (labels : Pairs) : Type 0 where
  pub before : List ℕ
  pub name : List ℕ
  pub middle : Middle
  pub blanks : are_blanks before ≡ true
  pub named : is_metric_name name ≡ true
  pub lawful : IsMiddle middle
  pub spelled : bytes ≡ before ++ (name ++ middle_text middle)
  pub built : build_of ((name_label, name) ∷ middle_pairs middle) ≡ Ok labels

-- bytes are a number and perhaps a timestamp, whose time is seen up to the first one that is too large
pub record IsTail (default : ℕ) (bytes : List ℕ) (read : Read) (time : ℕ) : Type 0 where
  pub number : Reads (front_of is_no_blank bytes) read
  pub timed : time_at default (past is_no_blank bytes) ≡ Some time

-- the label set that is kept for some bytes is that of the series that they are
abbrev pub AreRead : {S : Type 0} → HashMap (List ℕ) Pairs S → Type 0
AreRead known = (bytes : List ℕ) (labels : Pairs) → get bytes_eq known bytes ≡ Some labels → IsSeries bytes labels
