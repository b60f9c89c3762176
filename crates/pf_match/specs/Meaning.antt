-- What a pattern means: what the reader of the crate `regex` makes of it, where that matches, and what a template stands for
-- there. Prometheus, Querying basics and Query functions (`label_replace`): expressions are fully anchored.
use Rattle.std.specs.Prelude.{ℕ, Bool, false, ◌||◌, not, cond, nat_le, List, ◌++◌, Option, None, Some, option_and_then, option_map, is_some, codes, chars}
use Rattle.std.specs.List.{list_any}
use Rattle.std.specs.Str.{bytes_eq}
use Rattle.regex.specs.Patterns.{Re, Match, find_str, default_config}
use Rattle.regex.specs.Replace.{group_bytes}
use Rattle.regex.specs.Templates.{written_after}
use Rattle.regex_syntax.specs.Brackets.{Nested}
use Rattle.regex_syntax.specs.Grammar.{Names, read}

-- the expression that is read: a match goes from the first byte to the last, and `.` is a line feed too
abbrev pub anchored : List ℕ → List ℕ
anchored text = codes "^(?s:" ++ (text ++ codes ")$")

-- the tree of an expression, and the names of its groups, from group 0 on
pub record Reading : Type 0 where
  pub tree : Re
  pub names : Names

-- none of an expression that nests too deep
abbrev pub reading_of : Nested Re × Names → Option Reading
reading_of found = cond (nat_le found.0.depth default_config.nest_limit) (Some (record { tree = found.0.value; names = found.1 })) None

-- what a pattern is read as, if it is an expression that does not nest too deep
unfoldable pub reading : List ℕ → Option Reading
reading text = option_and_then reading_of (read default_config (chars (anchored text)))

abbrev pub is_pattern : List ℕ → Bool
is_pattern text = is_some (reading text)

abbrev pub is_listed : List (List ℕ) → List ℕ → Bool
is_listed texts text = list_any (bytes_eq text) texts

-- a pattern is refused: it is no expression, it nests too deep, or it is one of the refused, which compile too big
abbrev pub is_refused : List (List ℕ) → List ℕ → Bool
is_refused refused pattern = not (is_pattern pattern) || is_listed refused pattern

abbrev pub has_match : Option Reading → List ℕ → Bool
has_match None value = false
has_match (Some r) value = is_some (find_str r.tree value 0)

-- the pattern matches the value
abbrev pub matches : List ℕ → List ℕ → Bool
matches pattern value = has_match (reading pattern) value

-- what a template stands for at a match in the value
abbrev pub written_at : Names → List ℕ → List ℕ → Match → List ℕ
written_at names value template m = written_after names (group_bytes value m) template 0

abbrev pub written : Option Reading → List ℕ → List ℕ → Option (List ℕ)
written None value template = None
written (Some r) value template = option_map (written_at r.names value template) (find_str r.tree value 0)

-- the template with the groups put in, where the pattern matches the value
abbrev pub expand : List ℕ → List ℕ → List ℕ → Option (List ℕ)
expand pattern value template = written (reading pattern) value template
