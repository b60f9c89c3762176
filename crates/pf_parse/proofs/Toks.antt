-- Tokens by cases, each with the terminal that it fits.
use Rattle.std.proofs.Common.{◌≡◌, ◌∙◌, sym, refl, ap, ℕ, ℤ, Bool, true, false, not, cond, ◌||◌, List, [], ◌∷◌, map, Option, Some, None, codes, arith}
use Rattle.std.proofs.lemmas.Slice.Eq.{bytes_eq-Decides}
use Rattle.std.specs.List.{list_any}
use Rattle.std.specs.Option.{is_none}
use Rattle.std.specs.Str.{bytes_eq, str_to_ascii_lowercase}
use Rattle.pf_lex.specs.declared.token.Mark.{Mark}
use Rattle.pf_lex.specs.declared.token.Mark.TheVariants as mark
use Rattle.pf_model.specs.declared.functions.Sign.{Sign}
use Rattle.pf_model.specs.declared.functions.Sign.TheVariants as operator
use Rattle.pf_model.specs.Grammar.{Fits}
use Rattle.pf_model.specs.Grammar as grammar
use Rattle.pf_model.specs.Tokens as token
use Rattle.pf_model.specs.Words.{is_keyword, is_set_operator, operator_text}
use Rattle.pf_parse.specs.declared.keyword.Keyword.{Keyword}
use Rattle.pf_parse.specs.declared.keyword.Keyword.TheVariants as keyword
use Rattle.pf_parse.specs.Lexemes.{Lexeme, word, keyword_text, all_keywords, keyword_among, keyword_of, mark_text, all_marks, mark_among, mark_of, within_limit, lexeme_of, operates, opens_square, separates, closes, stops, follow_of}
use Rattle.pf_parse.specs.Lexemes as lexeme

pub data Tok : Type 0 where
  key : (k : Keyword) (w : List ℕ) → str_to_ascii_lowercase w ≡ keyword_text k → keyword_among all_keywords (keyword_text k) ≡ Some k → Tok
  plain : (w : List ℕ) → is_keyword w ≡ false → Tok
  number : ℤ → Tok
  duration : ℕ → Tok
  string : List ℕ → Tok
  sign : Mark → Tok
  other : List ℕ → Tok

abbrev pub sort : Tok → token.Sort
sort (key k w h f) = token.word w
sort (plain w h) = token.word w
sort (number n) = token.number n
sort (duration d) = token.duration d
sort (string s) = token.string s
sort (sign m) = token.sign (mark_text m)
sort (other s) = token.sign s

abbrev pub seen : Tok → Lexeme
seen (key k w h f) = word (Some k) w
seen (plain w h) = word None w
seen (number n) = lexeme.number n
seen (duration d) = lexeme.duration (within_limit d)
seen (string s) = lexeme.string s
seen (sign m) = lexeme.sign (Some m)
seen (other s) = lexeme.sign None

pub record Toks (u : token.Sort) : Type 0 where
  pub tok : Tok
  pub is : sort tok ≡ u
  pub as_seen : lexeme_of u ≡ seen tok

-- ---- words

record FoundKey (small : List ℕ) (o : Option Keyword) : Type 0 where
  for_some : (k : Keyword) → o ≡ Some k → small ≡ keyword_text k

found_key : (ks : List Keyword) (small : List ℕ) → FoundKey small (keyword_among ks small)
found_key [] small = record { for_some = λ k h. absurd (grind arith) }
found_key (j ∷ ks) small = by_test (bytes_eq small (keyword_text j)) refl (found_key ks small)
  where
    by_test : (b : Bool) → bytes_eq small (keyword_text j) ≡ b → FoundKey small (keyword_among ks small)
        → FoundKey small (cond b (Some j) (keyword_among ks small))
    by_test true h f =
        record { for_some = λ k e. (bytes_eq-Decides small (keyword_text j)).0 h ∙ ap keyword_text (some_same j k e) }
      where
        some_same : (j k : Keyword) → Some j ≡ Some k → j ≡ k
        some_same j k e = cc
    by_test false h f = f

no_key : (ks : List Keyword) (small : List ℕ) → keyword_among ks small ≡ None → list_any (bytes_eq small) (map keyword_text ks) ≡ false
no_key [] small h = refl
no_key (k ∷ ks) small h = by_test (bytes_eq small (keyword_text k)) h (no_key ks small)
  where
    by_test : (b : Bool) → cond b (Some k) (keyword_among ks small) ≡ None
        → (keyword_among ks small ≡ None → list_any (bytes_eq small) (map keyword_text ks) ≡ false)
        → (b || list_any (bytes_eq small) (map keyword_text ks)) ≡ false
    by_test true e f = absurd (never e)
      where
        never : Some k ≡ None → ⊥
        never e = cc
    by_test false e f = f e

some_key : (ks : List Keyword) (small : List ℕ) (k : Keyword) → keyword_among ks small ≡ Some k → list_any (bytes_eq small) (map keyword_text ks) ≡ true
some_key [] small k h = absurd (never h)
  where
    never : ◌≡◌ {A = Option Keyword} None (Some k) → ⊥
    never h = cc
some_key (j ∷ ks) small k h = by_test (bytes_eq small (keyword_text j)) h (some_key ks small k)
  where
    by_test : (b : Bool) → cond b (Some j) (keyword_among ks small) ≡ Some k
        → (keyword_among ks small ≡ Some k → list_any (bytes_eq small) (map keyword_text ks) ≡ true)
        → (b || list_any (bytes_eq small) (map keyword_text ks)) ≡ true
    by_test true e f = refl
    by_test false e f = f e

-- a word is no keyword exactly where none is found
pub keyword_none : (w : List ℕ) → not (is_keyword w) ≡ is_none (keyword_of w)
keyword_none w = by_found (keyword_of w) refl
  where
    by_found : (o : Option Keyword) → keyword_of w ≡ o → not (is_keyword w) ≡ is_none o
    by_found None h = ap not (no_key all_keywords (str_to_ascii_lowercase w) h)
    by_found (Some k) h = ap not (some_key all_keywords (str_to_ascii_lowercase w) k h)

word_tok : (w : List ℕ) (o : Option Keyword) → keyword_of w ≡ o → Toks (token.word w)
word_tok w None h =
    record { tok = plain w (no_key all_keywords (str_to_ascii_lowercase w) h); is = refl; as_seen = ap (λ o. word o w) h }
word_tok w (Some k) h =
    let small : str_to_ascii_lowercase w ≡ keyword_text k = (found_key all_keywords (str_to_ascii_lowercase w)).for_some k h in
    record {
      tok = key k w small (sym (ap (keyword_among all_keywords) small) ∙ h);
      is = refl;
      as_seen = ap (λ o. word o w) h;
    }

-- ---- signs

record FoundMark (s : List ℕ) (o : Option Mark) : Type 0 where
  for_some : (m : Mark) → o ≡ Some m → s ≡ mark_text m

found_mark : (ms : List Mark) (s : List ℕ) → FoundMark s (mark_among ms s)
found_mark [] s = record { for_some = λ k h. absurd (grind arith) }
found_mark (n ∷ ms) s = by_test (bytes_eq s (mark_text n)) refl (found_mark ms s)
  where
    by_test : (b : Bool) → bytes_eq s (mark_text n) ≡ b → FoundMark s (mark_among ms s) → FoundMark s (cond b (Some n) (mark_among ms s))
    by_test true h f =
        record { for_some = λ m e. (bytes_eq-Decides s (mark_text n)).0 h ∙ ap mark_text (some_same n m e) }
      where
        some_same : (n m : Mark) → Some n ≡ Some m → n ≡ m
        some_same n m e = cc
    by_test false h f = f

sign_tok : (s : List ℕ) (o : Option Mark) → mark_of s ≡ o → Toks (token.sign s)
sign_tok s None h = record { tok = other s; is = refl; as_seen = ap lexeme.sign h }
sign_tok s (Some m) h =
    record {
      tok = sign m;
      is = ap token.sign (sym ((found_mark all_marks s).for_some m h));
      as_seen = ap lexeme.sign h;
    }

pub tok_of : (u : token.Sort) → Toks u
tok_of (token.word w) = word_tok w (keyword_of w) refl
tok_of (token.number n) = record { tok = number n; is = refl; as_seen = refl }
tok_of (token.duration d) = record { tok = duration d; is = refl; as_seen = refl }
tok_of (token.string s) = record { tok = string s; is = refl; as_seen = refl }
tok_of (token.sign s) = sign_tok s (mark_of s) refl

-- ---- behind a whole operand

pub data Followed (t : Tok) : Type 0 where
  operation : (s : Sign) → follow_of (seen t) ≡ operates s
      → Fits (cond (is_set_operator s) (grammar.key (operator_text s)) (grammar.sign (operator_text s))) (sort t) → Followed t
  square : follow_of (seen t) ≡ opens_square → Fits (grammar.sign (codes "[")) (sort t) → Followed t
  comma : follow_of (seen t) ≡ separates → Fits (grammar.sign (codes ",")) (sort t) → Followed t
  close : follow_of (seen t) ≡ closes → Fits (grammar.sign (codes ")")) (sort t) → Followed t
  nothing : follow_of (seen t) ≡ stops → Followed t

operator_key : (s : Sign) (w : List ℕ) (h : str_to_ascii_lowercase w ≡ operator_text s) (f : keyword_among all_keywords (operator_text s) ≡ Some (keyword.Operator s))
    → Followed (key (keyword.Operator s) w h f)
operator_key operator.Add w h f = absurd (never f)
  where
    never : ◌≡◌ {A = Option Keyword} None (Some (keyword.Operator operator.Add)) → ⊥
    never e = cc
operator_key operator.Sub w h f = absurd (never f)
  where
    never : ◌≡◌ {A = Option Keyword} None (Some (keyword.Operator operator.Sub)) → ⊥
    never e = cc
operator_key operator.Mul w h f = absurd (never f)
  where
    never : ◌≡◌ {A = Option Keyword} None (Some (keyword.Operator operator.Mul)) → ⊥
    never e = cc
operator_key operator.Div w h f = absurd (never f)
  where
    never : ◌≡◌ {A = Option Keyword} None (Some (keyword.Operator operator.Div)) → ⊥
    never e = cc
operator_key operator.Rem w h f = absurd (never f)
  where
    never : ◌≡◌ {A = Option Keyword} None (Some (keyword.Operator operator.Rem)) → ⊥
    never e = cc
operator_key operator.Equal w h f = absurd (never f)
  where
    never : ◌≡◌ {A = Option Keyword} None (Some (keyword.Operator operator.Equal)) → ⊥
    never e = cc
operator_key operator.NotEqual w h f = absurd (never f)
  where
    never : ◌≡◌ {A = Option Keyword} None (Some (keyword.Operator operator.NotEqual)) → ⊥
    never e = cc
operator_key operator.Less w h f = absurd (never f)
  where
    never : ◌≡◌ {A = Option Keyword} None (Some (keyword.Operator operator.Less)) → ⊥
    never e = cc
operator_key operator.LessOrEqual w h f = absurd (never f)
  where
    never : ◌≡◌ {A = Option Keyword} None (Some (keyword.Operator operator.LessOrEqual)) → ⊥
    never e = cc
operator_key operator.Greater w h f = absurd (never f)
  where
    never : ◌≡◌ {A = Option Keyword} None (Some (keyword.Operator operator.Greater)) → ⊥
    never e = cc
operator_key operator.GreaterOrEqual w h f = absurd (never f)
  where
    never : ◌≡◌ {A = Option Keyword} None (Some (keyword.Operator operator.GreaterOrEqual)) → ⊥
    never e = cc
operator_key operator.And w h f = operation operator.And refl h
operator_key operator.Or w h f = operation operator.Or refl h
operator_key operator.Unless w h f = operation operator.Unless refl h

pub followed_of : (t : Tok) → Followed t
followed_of (key (keyword.Operator s) w h f) = operator_key s w h f
followed_of (key keyword.Bool w h f) = nothing refl
followed_of (key (keyword.Keys x) w h f) = nothing refl
followed_of (key (keyword.Group x) w h f) = nothing refl
followed_of (key (keyword.Clause x) w h f) = nothing refl
followed_of (key keyword.Offset w h f) = nothing refl
followed_of (key (keyword.Aggregation x) w h f) = nothing refl
followed_of (plain w h) = nothing refl
followed_of (number n) = nothing refl
followed_of (duration d) = nothing refl
followed_of (string s) = nothing refl
followed_of (other s) = nothing refl
followed_of (sign mark.Open) = nothing refl
followed_of (sign mark.Close) = close refl refl
followed_of (sign mark.OpenBrace) = nothing refl
followed_of (sign mark.CloseBrace) = nothing refl
followed_of (sign mark.OpenSquare) = square refl refl
followed_of (sign mark.CloseSquare) = nothing refl
followed_of (sign mark.Comma) = comma refl refl
followed_of (sign mark.Colon) = nothing refl
followed_of (sign mark.At) = nothing refl
followed_of (sign mark.Plus) = operation operator.Add refl refl
followed_of (sign mark.Minus) = operation operator.Sub refl refl
followed_of (sign mark.Times) = operation operator.Mul refl refl
followed_of (sign mark.Over) = operation operator.Div refl refl
followed_of (sign mark.Percent) = operation operator.Rem refl refl
followed_of (sign mark.DoubleEqual) = operation operator.Equal refl refl
followed_of (sign mark.NotEqual) = operation operator.NotEqual refl refl
followed_of (sign mark.AtMost) = operation operator.LessOrEqual refl refl
followed_of (sign mark.Below) = operation operator.Less refl refl
followed_of (sign mark.AtLeast) = operation operator.GreaterOrEqual refl refl
followed_of (sign mark.Above) = operation operator.Greater refl refl
followed_of (sign mark.Equal) = nothing refl
followed_of (sign mark.Like) = nothing refl
followed_of (sign mark.NotLike) = nothing refl
