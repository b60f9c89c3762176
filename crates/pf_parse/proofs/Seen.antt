-- What a token that fits a terminal is as a lexeme.
use Rattle.std.proofs.Common.{◌≡◌, ◌∙◌, sym, refl, ap, ℕ, ℤ, Bool, true, false, cond, List, [], ◌∷◌, map, Option, Some, None, ◌||◌, arith}
use Rattle.std.specs.List.{list_any}
use Rattle.std.specs.Str.{bytes_eq, str_to_ascii_lowercase}
use Rattle.pf_lex.specs.declared.token.Mark.{Mark}
use Rattle.pf_lex.specs.declared.token.Mark.TheVariants as mark
use Rattle.pf_model.specs.Grammar.{Fits, key, name, label, exactly, has_colon}
use Rattle.pf_model.specs.Grammar as grammar
use Rattle.pf_model.specs.Tokens as token
use Rattle.pf_model.specs.Words.{is_keyword}
use Rattle.pf_parse.specs.declared.keyword.Keyword.{Keyword}
use Rattle.pf_parse.specs.Lexemes.{Lexeme, word, number, duration, string, sign, keyword_text, all_keywords, keyword_among, keyword_of, mark_text, mark_of, within_limit, lexeme_of}

mark_of_text : (m : Mark) → mark_of (mark_text m) ≡ Some m
mark_of_text mark.Open = refl
mark_of_text mark.Close = refl
mark_of_text mark.OpenBrace = refl
mark_of_text mark.CloseBrace = refl
mark_of_text mark.OpenSquare = refl
mark_of_text mark.CloseSquare = refl
mark_of_text mark.Comma = refl
mark_of_text mark.Colon = refl
mark_of_text mark.At = refl
mark_of_text mark.Plus = refl
mark_of_text mark.Minus = refl
mark_of_text mark.Times = refl
mark_of_text mark.Over = refl
mark_of_text mark.Percent = refl
mark_of_text mark.DoubleEqual = refl
mark_of_text mark.NotEqual = refl
mark_of_text mark.AtMost = refl
mark_of_text mark.Below = refl
mark_of_text mark.AtLeast = refl
mark_of_text mark.Above = refl
mark_of_text mark.Equal = refl
mark_of_text mark.Like = refl
mark_of_text mark.NotLike = refl

pub at_mark : (m : Mark) (u : token.Sort) → Fits (grammar.sign (mark_text m)) u → lexeme_of u ≡ sign (Some m)
at_mark m (token.word w) h = absurd h
at_mark m (token.number n) h = absurd h
at_mark m (token.duration d) h = absurd h
at_mark m (token.string s) h = absurd h
at_mark m (token.sign s) h = ap (λ b. sign (mark_of b)) h ∙ ap sign (mark_of_text m)

pub at_number : (n : ℤ) (u : token.Sort) → Fits (grammar.number n) u → lexeme_of u ≡ number n
at_number n (token.word w) h = absurd h
at_number n (token.number m) h = ap number h
at_number n (token.duration d) h = absurd h
at_number n (token.string s) h = absurd h
at_number n (token.sign s) h = absurd h

pub at_duration : (d : ℕ) (u : token.Sort) → Fits (grammar.duration d) u → lexeme_of u ≡ duration (within_limit d)
at_duration n (token.word w) h = absurd h
at_duration n (token.number m) h = absurd h
at_duration n (token.duration d) h = ap (λ m. duration (within_limit m)) h
at_duration n (token.string s) h = absurd h
at_duration n (token.sign s) h = absurd h

pub at_string : (s : List ℕ) (u : token.Sort) → Fits (grammar.string s) u → lexeme_of u ≡ string s
at_string n (token.word w) h = absurd h
at_string n (token.number m) h = absurd h
at_string n (token.duration d) h = absurd h
at_string n (token.string s) h = ap string h
at_string n (token.sign s) h = absurd h

-- a word of this text, whatever keyword it is
pub record Word (text : List ℕ) (x : Lexeme) : Type 0 where
  pub keyword : Option Keyword
  pub is : x ≡ word keyword text

-- this keyword, however it is written
pub record Key (k : Keyword) (x : Lexeme) : Type 0 where
  pub text : List ℕ
  pub is : x ≡ word (Some k) text

pub at_key : (k : Keyword) (u : token.Sort) → keyword_among all_keywords (keyword_text k) ≡ Some k
    → Fits (key (keyword_text k)) u → Key k (lexeme_of u)
at_key k (token.word w) e h = record { text = w; is = ap (λ b. word (keyword_among all_keywords b) w) h ∙ ap (λ o. word o w) e }
at_key k (token.number m) e h = absurd h
at_key k (token.duration d) e h = absurd h
at_key k (token.string s) e h = absurd h
at_key k (token.sign s) e h = absurd h

pub at_label : (l : List ℕ) (u : token.Sort) → Fits (label l) u → Word l (lexeme_of u) × (has_colon l ≡ false)
at_label l (token.word w) h = (record { keyword = keyword_of w; is = ap (word (keyword_of w)) h.0 }, ap has_colon (sym h.0) ∙ h.1)
at_label l (token.number m) h = absurd h
at_label l (token.duration d) h = absurd h
at_label l (token.string s) h = absurd h
at_label l (token.sign s) h = absurd h

pub at_exactly : (l : List ℕ) (u : token.Sort) → Fits (exactly l) u → Word l (lexeme_of u)
at_exactly l (token.word w) h = record { keyword = keyword_of w; is = ap (word (keyword_of w)) h }
at_exactly l (token.number m) h = absurd h
at_exactly l (token.duration d) h = absurd h
at_exactly l (token.string s) h = absurd h
at_exactly l (token.sign s) h = absurd h

or_else : (a : Bool) (k : Keyword) (o : Option Keyword) → (a ≡ false) → o ≡ None → cond a (Some k) o ≡ None
or_else a k o h e = ap (λ b. cond b (Some k) o) h ∙ e

first_false : (a b : Bool) → (a || b) ≡ false → a ≡ false
first_false false b h = refl
first_false true b h = h

second_false : (a b : Bool) → (a || b) ≡ false → b ≡ false
second_false false b h = h
second_false true b h = absurd (grind arith)

none_among : (ks : List Keyword) (small : List ℕ)
    → list_any (bytes_eq small) (map keyword_text ks) ≡ false → keyword_among ks small ≡ None
none_among [] small h = refl
none_among (k ∷ ks) small h =
    or_else (bytes_eq small (keyword_text k)) k (keyword_among ks small) (first_false _ _ h)
    (none_among ks small (second_false (bytes_eq small (keyword_text k)) _ h))

no_keyword : (w : List ℕ) → is_keyword w ≡ false → keyword_of w ≡ None
no_keyword w h = none_among all_keywords (str_to_ascii_lowercase w) h

pub at_name : (n : List ℕ) (u : token.Sort) → Fits (name n) u → lexeme_of u ≡ word None n
at_name n (token.word w) h = ap (λ o. word o w) (no_keyword w h.1) ∙ ap (word None) h.0
at_name n (token.number m) h = absurd h
at_name n (token.duration d) h = absurd h
at_name n (token.string s) h = absurd h
at_name n (token.sign s) h = absurd h
