-- How a text is cut from the left: this project's own. The private functions compute these.
use Rattle.std.specs.Prelude.{◌≡◌, ℕ, ◌<◌, ◌≤◌, ◌||◌, Bool, true, false, List, length, take, nat_eq, Option, Some, None}
use Rattle.pf_base.specs.LabelSets.{goes_on}
use Rattle.pf_model.specs.TokenScans.{token_at}
use Rattle.pf_model.specs.Tokens.{inside_behind, is_sign, next_at}
use Rattle.pf_lex.specs.Seen.{IsExact, mark_text, sort_of, text_of, token_of}
use Rattle.pf_lex.specs.declared.token.Token.{Token}
use Rattle.pf_lex.specs.declared.token.Mark.{Mark}
use Rattle.pf_lex.specs.declared.token.TokenSort.{TokenSort}

abbrev pub is_word_byte : ℕ → Bool
is_word_byte b = goes_on b || nat_eq b 58

-- this token of so many bytes stands in front
pub record IsInFront (inside : Bool) (bytes : List ℕ) (sort : TokenSort) (len : ℕ) : Type 0 where
  pub token : token_at inside bytes 0 ≡ Some (record { from = 0; to = len; sort = sort_of (take len bytes) sort })
  pub exact : IsExact (take len bytes) sort
  pub some : 1 ≤ len
  pub within : len ≤ length bytes

-- what is found is the token in front
abbrev pub Finds : Bool → List ℕ → Option (TokenSort × ℕ) → Type 0
Finds inside bytes None = token_at inside bytes 0 ≡ None
Finds inside bytes (Some x) = IsInFront inside bytes x.0 x.1

-- a sign of this text, or none
abbrev pub Marks : Bool → List ℕ → Option Mark → Type 0
Marks inside text None = is_sign inside text ≡ false
Marks inside text (Some m) = (is_sign inside text ≡ true) × (mark_text m ≡ text)

-- a sign of two bytes in front, or none
abbrev pub MarksTwo : List ℕ → Option Mark → Type 0
MarksTwo bytes None = 2 ≤ length bytes → is_sign false (take 2 bytes) ≡ false
MarksTwo bytes (Some m) = (2 ≤ length bytes) × (is_sign false (take 2 bytes) ≡ true) × (mark_text m ≡ take 2 bytes)

-- the token that begins at a place
pub record BeginsAt (inside : Bool) (text : List ℕ) (at : ℕ) (t : Token) : Type 0 where
  pub token : token_at inside text at ≡ Some (token_of text t)
  pub exact : IsExact (text_of text t) t.sort
  pub from : t.from ≡ at
  pub some : at < t.to
  pub within : t.to ≤ length text

abbrev pub FindsAt : Bool → List ℕ → ℕ → Option Token → Type 0
FindsAt inside text at None = token_at inside text at ≡ None
FindsAt inside text at (Some t) = BeginsAt inside text at t

-- the token that begins at a place, whether what follows is inside square brackets, and the place of the next
pub record IsStep (inside : Bool) (text : List ℕ) (at : ℕ) (t : Token) (after : Bool) (place : ℕ) : Type 0 where
  pub begins : BeginsAt inside text at t
  pub behind : after ≡ inside_behind inside (sort_of (text_of text t) t.sort)
  pub next : place ≡ next_at text t.to
  pub later : at < place
  pub within : place ≤ length text

abbrev pub Steps : Bool → List ℕ → ℕ → Option (Token × Bool × ℕ) → Type 0
Steps inside text at None = token_at inside text at ≡ None
Steps inside text at (Some x) = IsStep inside text at x.0 x.1 x.2
