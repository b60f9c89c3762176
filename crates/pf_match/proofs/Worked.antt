-- Worked patterns, computed by the checker with the reader of `regex`.
use Rattle.std.proofs.Common.{◌≡◌, refl, codes, true, false, Some, None, [], ◌∷◌}
use Rattle.regex_syntax.proofs.SetLemmas.{in_ranges-members}
use Rattle.regex.proofs.OnLiterals.{regex_on_literals}
use Rattle.regex.specs.Patterns.{holds, slot_of, find_str, has_bytes_at}
use Rattle.regex_hir.specs.Find.{first_from}
use Rattle.regex_hir.specs.Looks.{holds_between}
use Rattle.regex_hir.specs.Re.{attempt, rounds}
use Rattle.regex_hir.specs.Text.{byte_before, char_at, char_before, is_boundary}
use Rattle.pf_match.specs.Meaning.{is_pattern, is_refused, matches, expand, reading}

-- an unclosed group
refused : is_pattern (codes "a(b") ≡ false
unfolding regex_on_literals reading
refused = refl

read : is_pattern (codes "a(b)+-x") ≡ true
unfolding regex_on_literals reading
read = refl

-- no expression is refused whatever is listed, and an expression where it is listed
unlisted_is_refused : is_refused [] (codes "a(b") ≡ true
unfolding regex_on_literals reading
unlisted_is_refused = refl

unlisted_is_read : is_refused (codes "b+" ∷ []) (codes "a+") ≡ false
unfolding regex_on_literals reading
unlisted_is_read = refl

listed_is_refused : is_refused (codes "b+" ∷ (codes "a+" ∷ [])) (codes "a+") ≡ true
unfolding regex_on_literals reading
listed_is_refused = refl

whole_value : matches (codes "a(b)+-x") (codes "abb-x") ≡ true
unfolding regex_on_literals reading find_str first_from attempt rounds holds holds_between byte_before char_at char_before is_boundary has_bytes_at slot_of
whole_value = refl

-- a part of the value is none
part_in_front : matches (codes "a(b)+-x") (codes "abb-xz") ≡ false
unfolding regex_on_literals reading find_str first_from attempt rounds holds holds_between byte_before char_at char_before is_boundary has_bytes_at slot_of
part_in_front = refl

part_behind : matches (codes "a(b)+-x") (codes "zabb-x") ≡ false
unfolding regex_on_literals reading find_str first_from attempt rounds holds holds_between byte_before char_at char_before is_boundary has_bytes_at slot_of
part_behind = refl

-- the anchors hold each alternative
alternative : matches (codes "get|post") (codes "post") ≡ true
unfolding regex_on_literals reading find_str first_from attempt rounds holds holds_between byte_before char_at char_before is_boundary has_bytes_at slot_of
alternative = refl

part_of_alternative : matches (codes "get|post") (codes "gets") ≡ false
unfolding regex_on_literals reading find_str first_from attempt rounds holds holds_between byte_before char_at char_before is_boundary has_bytes_at slot_of
part_of_alternative = refl

-- `.` is a line feed too
line_feed : matches (codes "a.b") (codes "a\nb") ≡ true
unfolding regex_on_literals reading find_str first_from attempt rounds holds holds_between byte_before char_at char_before is_boundary has_bytes_at slot_of
line_feed = rw (in_ranges-members _ 10) refl

numbered : expand (codes "a(b+)-(x)") (codes "abb-x") (codes "$2-${1}") ≡ Some (codes "x-bb")
unfolding regex_on_literals reading find_str first_from attempt rounds holds holds_between byte_before char_at char_before is_boundary has_bytes_at slot_of
numbered = refl

named : expand (codes "(?P<job>a)-b") (codes "a-b") (codes "${job}_$job $job_") ≡ Some (codes "a_a ")
unfolding regex_on_literals reading find_str first_from attempt rounds holds holds_between byte_before char_at char_before is_boundary has_bytes_at slot_of
named = refl

-- a group that took no part, one that there is none of, and a dollar sign
nothing : expand (codes "(a)|b") (codes "b") (codes "<$1$2>$$1") ≡ Some (codes "<>$1")
unfolding regex_on_literals reading find_str first_from attempt rounds holds holds_between byte_before char_at char_before is_boundary has_bytes_at slot_of
nothing = refl

no_match : expand (codes "(a)b") (codes "abc") (codes "$1") ≡ None
unfolding regex_on_literals reading find_str first_from attempt rounds holds holds_between byte_before char_at char_before is_boundary has_bytes_at slot_of
no_match = refl

any_value : expand (codes "(.*)") (codes "x") (codes "${1}-y") ≡ Some (codes "x-y")
unfolding regex_on_literals reading find_str first_from attempt rounds holds holds_between byte_before char_at char_before is_boundary has_bytes_at slot_of
any_value = rw (in_ranges-members _ 120) refl
