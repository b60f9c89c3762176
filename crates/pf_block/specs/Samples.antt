-- The samples of one series in order of time. Prometheus, Querying basics: Range vector selectors (Prometheus 3: open
-- at the left end, closed at the right).
use Rattle.std.specs.Prelude.{ℕ, suc, ℤ, pos, Bool, true, ◌&&◌, ◌||◌, cond, Option, None, Some, List, [], ◌∷◌, filter, take, int_lt, int_le}
use Rattle.std.specs.Ordering.{int_eq}
use Rattle.std.specs.List.{list_all}
use Rattle.pf_base.specs.Limits.{greatest_time}
use Rattle.pf_base.specs.declared.plain.Sample.{Sample}

-- each time is above the one before it
abbrev pub rises_after : ℤ → List Sample → Bool
rises_after time [] = true
rises_after time (s ∷ ss) = int_lt time s.time && rises_after s.time ss

abbrev pub rises : List Sample → Bool
rises [] = true
rises (s ∷ ss) = rises_after s.time ss

-- a time that rows may have, in milliseconds
abbrev pub is_timed : Sample → Bool
is_timed s = int_le (pos 0) s.time && int_le s.time (pos greatest_time)

-- the samples of a series
abbrev pub is_series : List Sample → Bool
is_series samples = rises samples && list_all is_timed samples

-- a sample's time lies in (after, upto]
abbrev pub is_within : ℤ → ℤ → Sample → Bool
is_within after upto s = int_lt after s.time && int_le s.time upto

-- the samples in (after, upto]
abbrev pub window_of : List Sample → ℤ → ℤ → List Sample
window_of samples after upto = filter (is_within after upto) samples

-- the last element of a list
abbrev pub last_onto : Option Sample → List Sample → Option Sample
last_onto found [] = found
last_onto found (s ∷ ss) = last_onto (Some s) ss

abbrev pub last_of : List Sample → Option Sample
last_of samples = last_onto None samples

-- the value that is held at a time
abbrev pub value_at : List Sample → ℤ → Option ℤ
value_at [] time = None
value_at (s ∷ ss) time = cond (int_eq s.time time) (Some s.value) (value_at ss time)

-- a sample put in front of the first one that is not before it
abbrev pub put_sample : Sample → List Sample → List Sample
put_sample s [] = s ∷ []
put_sample s (x ∷ xs) = cond (int_lt x.time s.time) (x ∷ put_sample s xs) (s ∷ x ∷ xs)

-- a sample's time lies outside [from, to]
abbrev pub is_outside : ℤ → ℤ → Sample → Bool
is_outside from to s = int_lt s.time from || int_lt to s.time

-- the number of first samples that are not after a time
abbrev pub until : ℤ → List Sample → ℕ
until time [] = 0
until time (s ∷ ss) = cond (int_le s.time time) (suc (until time ss)) 0

-- two lists in one: each time the earlier of the two first samples, and where these are of one time the first list's
abbrev pub put_earlier : Sample → (List Sample → List Sample) → List Sample → List Sample
put_earlier s rest [] = s ∷ rest []
put_earlier s rest (x ∷ xs) = cond (int_le s.time x.time) (s ∷ rest (x ∷ xs)) (x ∷ put_earlier s rest xs)

abbrev pub merged_samples : List Sample → List Sample → List Sample
merged_samples [] others = others
merged_samples (s ∷ ss) others = put_earlier s (merged_samples ss) others

-- the first samples of two lists up to the first one of the other list
abbrev pub stretch_of : List Sample → List Sample → List Sample
stretch_of [] others = others
stretch_of (s ∷ ss) [] = s ∷ ss
stretch_of (s ∷ ss) (x ∷ xs) = cond (int_le s.time x.time) (take (until x.time (s ∷ ss)) (s ∷ ss)) (take (until s.time (x ∷ xs)) (x ∷ xs))

-- the time of the last sample, where there is one
abbrev pub ends_at : ℤ → List Sample → ℤ
ends_at time [] = time
ends_at time (s ∷ ss) = ends_at s.time ss

-- the later of two samples
abbrev pub later_of : Option Sample → Option Sample → Option Sample
later_of None other = other
later_of (Some s) None = Some s
later_of (Some s) (Some x) = cond (int_le s.time x.time) (Some x) (Some s)
