-- How a string is read from the left: this project's own. The private functions compute these.
use Rattle.std.specs.Prelude.{ℕ, zero, suc, cond, encode_utf8, option_map, List, [], ◌∷◌, nat_eq, Option, Some, None}
use Rattle.pf_model.specs.Tokens.{Piece, ends, wrong, writes, piece}
use Rattle.pf_lex.specs.declared.string.Piece.{Piece as Found}
use Rattle.pf_lex.specs.declared.string.Piece.TheVariants as found
use Rattle.pf_lex.specs.declared.string.Written.{Written}
use Rattle.pf_lex.specs.declared.string.Written.TheVariants as written

-- what is found next in a string
abbrev pub bytes_of : Written → List ℕ
bytes_of (written.Byte byte) = byte ∷ []
bytes_of (written.Character character) = encode_utf8 character

abbrev pub piece_of : Found → Piece
piece_of found.End = ends
piece_of found.Wrong = wrong
piece_of (found.Writes w further) = writes (bytes_of w) further

abbrev pub further_of : Found → ℕ
further_of found.End = 0
further_of found.Wrong = 0
further_of (found.Writes w further) = further

-- the number of bytes up to the closing quote, with it; `passed` of the bytes belong to the piece before
abbrev pub end_behind : Piece → (ℕ → Option ℕ) → Option ℕ
end_behind ends more = Some 1
end_behind wrong more = None
end_behind (writes bytes further) more = option_map suc (more further)

abbrev pub quoted_end : ℕ → (passed : ℕ) → List ℕ → Option ℕ
quoted_end quote passed [] = None
quoted_end quote (suc passed) (b ∷ bs) = option_map suc (quoted_end quote passed bs)
quoted_end quote zero (b ∷ bs) = end_behind (piece quote b bs) (λ further. quoted_end quote further bs)

abbrev pub raw_end : List ℕ → Option ℕ
raw_end [] = None
raw_end (b ∷ bs) = cond (nat_eq b 96) (Some 1) (option_map suc (raw_end bs))

-- the length of a string in front, with its quotes
abbrev pub string_end : List ℕ → Option ℕ
string_end [] = None
string_end (b ∷ bs) = option_map suc (cond (nat_eq b 96) (raw_end bs) (quoted_end b zero bs))
