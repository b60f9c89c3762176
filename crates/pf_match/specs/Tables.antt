-- Patterns that were read one after another: what was found of a pattern stays. This project's own.
use Rattle.std.specs.BTreeMap.{BTreeMap, get_by_text}
use Rattle.std.specs.Prelude.{◌≡◌, ℕ, Bool, true, false, List, Some, Result, Ok, Err, map, string_bytes}
use Rattle.std.specs.List.{list_all}
use Rattle.std.specs.declared.alloc.Global.{Global}
use Rattle.std.specs.declared.string.String.{String}
use Rattle.pf_match.specs.declared.error.PatternError.{PatternError}
use Rattle.pf_match.specs.declared.error.PatternError.TheVariants as pattern
use Rattle.pf_match.specs.Meaning.{is_listed, is_pattern}

-- the texts that were built, and the expressions that compile too big
abbrev pub Table : Type 0
Table = List (List ℕ) × List (List ℕ)

-- a list of refused patterns says of each text that was read what was found
pub record Agrees (table : Table) (refused : List (List ℕ)) : Type 0 where
  pub built : (text : List ℕ) → is_listed table.0 text ≡ true → is_listed refused text ≡ false
  pub too_big : (text : List ℕ) → is_listed table.1 text ≡ true → is_listed refused text ≡ true

-- what was found stays: a list that agrees with the new table agrees with the old one
abbrev pub Stays : Table → Table → Type 0
Stays old new = (refused : List (List ℕ)) → Agrees new refused → Agrees old refused

-- an answer is none exactly where a pattern is refused, unless memory ran out
abbrev pub IsFate : {T : Type 0} → Bool → Result T PatternError → Type 0
IsFate refused (Ok found) = refused ≡ false
IsFate refused (Err pattern.BadPattern) = refused ≡ true
IsFate refused (Err pattern.TooBig) = refused ≡ true
IsFate refused (Err pattern.OutOfMemory) = Unit {0}

-- a list of expressions, which compile too big
abbrev pub AreTooBig : List (List ℕ) → Type 0
AreTooBig refused = list_all is_pattern refused ≡ true

-- the texts of the patterns that were built
abbrev pub texts_of : BTreeMap (String Global) (List ℕ) → List (List ℕ)
texts_of built = map (λ e. string_bytes e.0) built.entries

-- each pattern stands at its own text, no text is both built and refused, and those that are refused are expressions
pub record IsTable (built : BTreeMap (String Global) (List ℕ)) (refused : List (List ℕ)) : Type 0 where
  pub own : (text p : List ℕ) → get_by_text built text ≡ Some p → p ≡ text
  pub apart : (text p : List ℕ) → get_by_text built text ≡ Some p → is_listed refused text ≡ false
  pub too_big : AreTooBig refused
