-- What the reader sees of a text's tokens. This project's own.
use Rattle.std.specs.Prelude.{ℕ, ◌+◌, List, map, Result, Ok, Err}
use Rattle.pf_lex.specs.declared.token.Token.{Token}
use Rattle.pf_lex.specs.Seen.{sort_of, text_of}
use Rattle.pf_parse.specs.Held.{Held}
use Rattle.pf_parse.specs.Lexemes.{Lexeme, lexeme_of}

abbrev pub lexeme_at : List ℕ → Token → Lexeme
lexeme_at text t = lexeme_of (sort_of (text_of text t) t.sort)

abbrev pub lexemes_of : List ℕ → List Token → List Lexeme
lexemes_of text tokens = map (lexeme_at text) tokens

-- an answer that came so many tokens further on
abbrev pub past : ℕ → Result Held ℕ → Result Held ℕ
past n (Ok e) = Ok e
past n (Err m) = Err (n + m)
