-- Worked examples of matchers with patterns, with the reader of `regex`.
use Rattle.std.proofs.Common.{◌≡◌, true, false, List, [], ◌∷◌, refl, codes}
use Rattle.std.specs.Prelude.{ℕ}
use Rattle.regex_syntax.proofs.SetLemmas.{in_ranges-members}
use Rattle.regex.proofs.OnLiterals.{regex_on_literals}
use Rattle.regex.specs.Patterns as regex
use Rattle.regex.specs.Patterns.{slot_of, find_str, has_bytes_at}
use Rattle.regex_hir.specs.Find.{first_from}
use Rattle.regex_hir.specs.Looks.{holds_between}
use Rattle.regex_hir.specs.Re.{attempt, rounds}
use Rattle.regex_hir.specs.Text.{byte_before, char_at, char_before, is_boundary}
use Rattle.pf_base.specs.LabelSets.{Pairs}
use Rattle.pf_match.specs.Meaning.{reading}
use Rattle.pf_model.specs.declared.expr.Matcher.{Matcher}
use Rattle.pf_model.specs.declared.expr.MatchSign.{MatchSign}
use Rattle.pf_model.specs.declared.expr.MatchSign.TheVariants.{Like, NotLike}
use Rattle.pf_model.specs.Selection.{accepts, accepts_empty, all_compared, all_meant}

abbrev one : MatchSign → List ℕ → List Matcher
one sign text = record { label = codes "job"; sign = sign; text = text } ∷ []

abbrev job : List ℕ → Pairs
job value = (codes "job", value) ∷ []

-- `=~` wants the whole value, and one of the alternatives
whole_value : accepts (one Like (codes "ab+")) (job (codes "abb")) ≡ true
unfolding regex_on_literals reading find_str first_from attempt rounds regex.holds holds_between byte_before char_at char_before is_boundary has_bytes_at slot_of
whole_value = refl

middle_of_a_value : accepts (one Like (codes "b+")) (job (codes "abb")) ≡ false
unfolding regex_on_literals reading find_str first_from attempt rounds regex.holds holds_between byte_before char_at char_before is_boundary has_bytes_at slot_of
middle_of_a_value = refl

whole_alternative : accepts (one Like (codes "get|post")) (job (codes "post")) ≡ true
whole_alternative = refl

front_of_an_alternative : accepts (one Like (codes "get|post")) (job (codes "ge")) ≡ false
front_of_an_alternative = refl

-- a dot is each character, a line feed too
dot_is_a_line_feed : accepts (one Like (codes "x.z")) (job (codes "x\nz")) ≡ true
unfolding regex_on_literals reading find_str first_from attempt rounds regex.holds holds_between byte_before char_at char_before is_boundary has_bytes_at slot_of
dot_is_a_line_feed = rw (in_ranges-members _ 10) refl

-- `!~` accepts a label that is absent where `=~` doesn't
absent_label : accepts (one NotLike (codes "b+")) [] ≡ true
unfolding regex_on_literals reading find_str first_from attempt rounds regex.holds holds_between byte_before char_at char_before is_boundary has_bytes_at slot_of
absent_label = refl

absent_label_matched : accepts (one NotLike (codes "(b)?")) [] ≡ false
unfolding regex_on_literals reading find_str first_from attempt rounds regex.holds holds_between byte_before char_at char_before is_boundary has_bytes_at slot_of
absent_label_matched = refl

-- each value, and so the empty text
any_value_is_empty : accepts_empty (one Like (codes ".*")) ≡ true
unfolding regex_on_literals reading find_str first_from attempt rounds regex.holds holds_between byte_before char_at char_before is_boundary has_bytes_at slot_of
any_value_is_empty = refl

some_value_is_not : accepts_empty (one Like (codes ".+")) ≡ false
unfolding regex_on_literals reading find_str first_from attempt rounds regex.holds holds_between byte_before char_at char_before is_boundary has_bytes_at slot_of
some_value_is_not = refl

-- which patterns have a meaning, and which are given to `regex`
unclosed_group : all_meant (one Like (codes "(")) ≡ false
unfolding regex_on_literals reading find_str first_from attempt rounds regex.holds holds_between byte_before char_at char_before is_boundary has_bytes_at slot_of
unclosed_group = refl

plain_pattern : all_compared (one NotLike (codes "a-b:/c_|")) ≡ true
plain_pattern = refl

dotted_pattern : all_compared (one Like (codes "a.b")) ≡ false
dotted_pattern = refl
