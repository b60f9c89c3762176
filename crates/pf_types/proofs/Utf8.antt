-- Texts made of three pieces.
use Rattle.std.proofs.Common.{◌≡◌, sym, subst, ℕ, List, ◌++◌}
use Rattle.std.proofs.lemmas.Str.{IsUtf8-append}
use Rattle.std.specs.Str.{IsUtf8}

next_utf8 : (old piece new : List ℕ) → new ≡ old ++ piece → IsUtf8 piece → IsUtf8 old → IsUtf8 new
next_utf8 old piece new e p h = subst IsUtf8 (sym e) (IsUtf8-append old piece h p)

pub three_utf8 : (old a b c one two three : List ℕ) → one ≡ old ++ a → two ≡ one ++ b → three ≡ two ++ c
    → IsUtf8 a → IsUtf8 b → IsUtf8 c → IsUtf8 old → IsUtf8 three
three_utf8 old a b c one two three d e f p q r h =
    next_utf8 two c three f r (next_utf8 one b two e q (next_utf8 old a one d p h))
