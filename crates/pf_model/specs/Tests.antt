-- What matchers that are ready to be asked keep, and why a selector gives none: this project's own.
use Rattle.std.specs.Prelude.{◌≡◌, Bool, true, false, List, ℕ, Option, Some, None, Result, Ok, Err}
use Rattle.pf_match.specs.Meaning.{is_pattern}
use Rattle.pf_match.specs.declared.error.PatternError.{PatternError}
use Rattle.pf_match.specs.declared.error.PatternError.TheVariants as pattern
use Rattle.pf_model.specs.declared.expr.Matcher.{Matcher}
use Rattle.pf_model.specs.declared.matchers.MatchError.{MatchError}
use Rattle.pf_model.specs.declared.matchers.MatchError.TheVariants as match
use Rattle.pf_model.specs.Selection.{accepts_empty, any_refused, is_compared}

-- a matcher's pattern is kept beside it exactly where it isn't plain
abbrev pub IsTest : Matcher → Option (List ℕ) → Type 0
IsTest m None = is_compared m.sign m.text ≡ true
IsTest m (Some kept) = (kept ≡ m.text) × (is_pattern m.text ≡ true) × (is_compared m.sign m.text ≡ false)

-- why a pattern is refused, as why a selector gives no matchers
abbrev pub match_error : PatternError → MatchError
match_error pattern.BadPattern = match.BadPattern
match_error pattern.TooBig = match.BadPattern
match_error pattern.OutOfMemory = match.OutOfMemory

-- only a pattern that isn't compared is refused
abbrev pub MayRefuse : (is_compared : Bool) → PatternError → Type 0
MayRefuse compared pattern.OutOfMemory = Unit {0}
MayRefuse compared pattern.BadPattern = compared ≡ false
MayRefuse compared pattern.TooBig = compared ≡ false

-- a selector gives matchers exactly where none of its patterns is refused and it refuses the empty text, unless memory ran out;
-- of both faults the pattern is told
abbrev pub IsMatchFate : {T : Type 0} → List (List ℕ) → List Matcher → Result T MatchError → Type 0
IsMatchFate refused ms (Ok made) = (any_refused refused ms ≡ false) × (accepts_empty ms ≡ false)
IsMatchFate refused ms (Err match.BadPattern) = any_refused refused ms ≡ true
IsMatchFate refused ms (Err match.EmptySelector) = (any_refused refused ms ≡ false) × (accepts_empty ms ≡ true)
IsMatchFate refused ms (Err match.OutOfMemory) = Unit {0}
