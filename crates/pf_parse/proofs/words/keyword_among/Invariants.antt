use Rattle.std.proofs.Common.{◌≡◌, drop}
use Rattle.std.specs.Str.{str_to_ascii_lowercase}
use Rattle.pf_parse.specs.Lexemes.{keyword_among}
use Rattle.pf_parse.proofs.words.keyword_among.Given as goal

abbrev pub invariant-loop-keyword : goal.invariant-loop-keyword
invariant-loop-keyword l =
    keyword_among (drop l.keyword-index l.keywords) (str_to_ascii_lowercase l.word)
    ≡ keyword_among l.keywords (str_to_ascii_lowercase l.word)
