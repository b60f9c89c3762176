-- The scans of a query's tokens for brackets, names and times, as the code makes them. This project's own.
use Rattle.std.specs.Prelude.{ℕ, ◌+◌, ◌-◌, ◌/◌, nat_abs, nat_le, nat_lt, Bool, true, false, not, cond, ◌&&◌, ◌||◌, List, [], ◌∷◌, length, Option, Some, None, zero, suc}
use Rattle.std.specs.Option.{is_none}
use Rattle.pf_base.specs.Limits.{greatest_time}
use Rattle.pf_lex.specs.declared.token.Mark.TheVariants as mark
use Rattle.pf_lex.specs.declared.token.Token.{Token}
use Rattle.pf_lex.specs.declared.token.TokenSort.{TokenSort}
use Rattle.pf_lex.specs.declared.token.TokenSort.TheVariants as sort
use Rattle.pf_lex.specs.Seen.{text_of}
use Rattle.pf_model.specs.Words.{function_of}
use Rattle.pf_parse.specs.Lexemes.{keyword_of}

abbrev pub opens : TokenSort → Bool
opens (sort.Mark mark.Open) = true
opens (sort.Mark mark.OpenSquare) = true
opens (sort.Mark mark.OpenBrace) = true
opens _ = false

abbrev pub closes : TokenSort → Bool
closes (sort.Mark mark.Close) = true
closes (sort.Mark mark.CloseSquare) = true
closes (sort.Mark mark.CloseBrace) = true
closes _ = false

abbrev pub open_behind : ℕ → TokenSort → ℕ
open_behind count s = cond (opens s) (count + 1) (cond (closes s) (count - 1) count)

abbrev pub is_deep : ℕ → TokenSort → Bool
is_deep count s = opens s && nat_le 64 count

abbrev pub deep_at : ℕ → List Token → Option ℕ
deep_at count [] = None
deep_at count (t ∷ ts) = cond (is_deep count t.sort) (Some t.from) (deep_at (open_behind count t.sort) ts)

abbrev pub is_word : TokenSort → Bool
is_word sort.Word = true
is_word _ = false

abbrev pub is_open : TokenSort → Bool
is_open (sort.Mark mark.Open) = true
is_open _ = false

abbrev pub begins_open : List Token → Bool
begins_open [] = false
begins_open (t ∷ ts) = is_open t.sort

abbrev pub names_nothing : List ℕ → Bool
names_nothing w = is_none (keyword_of w) && is_none (function_of w)

abbrev pub is_lost : List ℕ → Token → List Token → Bool
is_lost text t ts = is_word t.sort && begins_open ts && names_nothing (text_of text t)

abbrev pub is_at : TokenSort → Bool
is_at (sort.Mark mark.At) = true
is_at _ = false

abbrev pub lost_at : List ℕ → Bool → List Token → Option ℕ
lost_at text behind_at [] = None
lost_at text behind_at (t ∷ ts) = cond (not behind_at && is_lost text t ts) (Some t.from) (lost_at text (is_at t.sort) ts)

abbrev pub is_late : Bool → TokenSort → Bool
is_late behind_at (sort.Number micros) = behind_at && nat_lt greatest_time (nat_abs micros / 1000)
is_late behind_at (sort.Duration millis) = is_none millis
is_late behind_at _ = false

abbrev pub is_front : TokenSort → Bool
is_front (sort.Mark mark.Plus) = true
is_front (sort.Mark mark.Minus) = true
is_front _ = false

abbrev pub is_behind_at : Bool → TokenSort → Bool
is_behind_at behind_at s = is_at s || (behind_at && is_front s)

abbrev pub late_at : Bool → List Token → Option ℕ
late_at behind_at [] = None
late_at behind_at (t ∷ ts) = cond (is_late behind_at t.sort) (Some t.from) (late_at (is_behind_at behind_at t.sort) ts)

abbrev pub place_at : List ℕ → List Token → ℕ → ℕ
place_at text [] n = length text
place_at text (t ∷ ts) zero = t.from
place_at text (t ∷ ts) (suc n) = place_at text ts n
