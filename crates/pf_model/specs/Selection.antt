-- What selectors accept and read. Prometheus, Querying basics: Time series selectors; that the look-back of five
-- minutes is open at its left end is that of Prometheus 3.
use Rattle.std.specs.Prelude.{ℕ, ℤ, pos, ◌-ℤ◌, int_lt, int_le, Bool, true, ◌&&◌, not, Option, Some, None, cond, List, [], ◌∷◌, nat_lt}
use Rattle.std.specs.Ordering.{is_eq}
use Rattle.std.specs.Str.{bytes_eq}
use Rattle.std.specs.List.{list_all, list_any}
use Rattle.pf_match.specs.Meaning.{is_refused}
use Rattle.pf_base.specs.Limits.{lookback}
use Rattle.pf_base.specs.declared.plain.Row.{Row}
use Rattle.pf_base.specs.LabelSets.{Pairs, value_of}
use Rattle.pf_base.specs.LabelOrder.{labels_cmp}
use Rattle.pf_model.specs.declared.expr.Matcher.{Matcher}
use Rattle.pf_model.specs.declared.expr.MatchSign.{MatchSign}
use Rattle.pf_model.specs.declared.expr.MatchSign.TheVariants.{Equal, NotEqual, Like, NotLike}
use Rattle.pf_model.specs.Patterns.{is_plain_pattern, is_like, is_meant}

abbrev pub same_labels : Pairs → Pairs → Bool
same_labels l m = is_eq (labels_cmp l m)

-- what a sign says of a label's value and the matcher's text
abbrev pub holds : MatchSign → List ℕ → List ℕ → Bool
holds Equal value text = bytes_eq value text
holds NotEqual value text = not (bytes_eq value text)
holds Like value pattern = is_like pattern value
holds NotLike value pattern = not (is_like pattern value)

-- a matcher's text is compared as it is, or is a plain pattern, whose alternatives are
abbrev pub is_compared : MatchSign → List ℕ → Bool
is_compared Like pattern = is_plain_pattern pattern
is_compared NotLike pattern = is_plain_pattern pattern
is_compared sign text = true

abbrev pub all_compared : List Matcher → Bool
all_compared ms = list_all (λ m. is_compared m.sign m.text) ms

-- a matcher's text has a meaning
abbrev pub has_meaning : MatchSign → List ℕ → Bool
has_meaning Like text = is_meant text
has_meaning NotLike text = is_meant text
has_meaning sign text = true

abbrev pub all_meant : List Matcher → Bool
all_meant ms = list_all (λ m. has_meaning m.sign m.text) ms

-- a matcher's pattern is refused, by the refused patterns that are expressions; one that is compared never is
abbrev pub is_refused_matcher : List (List ℕ) → Matcher → Bool
is_refused_matcher refused m = not (is_compared m.sign m.text) && is_refused refused m.text

abbrev pub any_refused : List (List ℕ) → List Matcher → Bool
any_refused refused ms = list_any (is_refused_matcher refused) ms

-- every matcher holds of its label's value
abbrev pub accepts : List Matcher → Pairs → Bool
accepts ms labels = list_all (λ m. holds m.sign (value_of labels m.label) m.text) ms

-- every matcher accepts the empty text, as a selector's may not
abbrev pub accepts_empty : List Matcher → Bool
accepts_empty ms = list_all (λ m. holds m.sign [] m.text) ms

-- a row's time lies in (from, to], and in (t - look-back, t], in milliseconds
abbrev pub is_within : ℤ → ℤ → Row → Bool
is_within from to r = int_lt from (pos r.time) && int_le (pos r.time) to

abbrev pub is_read : ℤ → Row → Bool
is_read t = is_within (t -ℤ pos lookback) t

-- the row of greatest time
abbrev pub later : Option Row → Row → Option Row
later None r = Some r
later (Some found) r = cond (nat_lt found.time r.time) (Some r) (Some found)

abbrev pub last_onto : Option Row → List Row → Option Row
last_onto found [] = found
last_onto found (r ∷ rs) = last_onto (later found r) rs

abbrev pub last_row : List Row → Option Row
last_row = last_onto None
