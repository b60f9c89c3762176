-- What a pattern, and what searches for it, keep of its text, and why a text gives no pattern.
use Rattle.std.specs.Prelude.{◌≡◌, ℕ, true, false, List, IsSomeAnd}
use Rattle.regex.specs.declared.error.Error as engine
use Rattle.regex.specs.declared.error.Error.TheVariants as refusal
use Rattle.regex.specs.Patterns.{Re, SameCaptures}
use Rattle.regex_syntax.specs.Grammar.{Names}
use Rattle.pf_match.specs.declared.error.PatternError.{PatternError}
use Rattle.pf_match.specs.declared.error.PatternError.TheVariants as pattern
use Rattle.pf_match.specs.Meaning.{Reading, reading, is_pattern}

-- the tree matches and captures as the reading's does, and its groups have the same names
abbrev pub IsAs : Re → Names → Reading → Type 0
IsAs tree names r = SameCaptures tree r.tree × (names ≡ r.names)

-- the text is read, and this tree with these names does as what it is read as
abbrev pub IsReadAs : List ℕ → Re → Names → Type 0
IsReadAs text tree names = IsSomeAnd (reading text) (IsAs tree names)

-- the crate `regex` refuses a text: it is no expression or nests too deep, or it compiles too big
abbrev pub pattern_error : engine.Error → PatternError
pattern_error (refusal.Syntax e) = pattern.BadPattern
pattern_error refusal.CompiledTooBig = pattern.TooBig
pattern_error refusal.Internal = pattern.TooBig
pattern_error refusal.OutOfMemory = pattern.OutOfMemory

-- why a text gives no pattern: it is no expression or nests too deep; or it is an expression, and compiles too big
abbrev pub IsPatternFault : List ℕ → PatternError → Type 0
IsPatternFault text pattern.BadPattern = is_pattern text ≡ false
IsPatternFault text pattern.TooBig = is_pattern text ≡ true
IsPatternFault text pattern.OutOfMemory = Unit {0}
