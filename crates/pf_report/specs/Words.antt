-- Words of a line: this project's own.
use Rattle.std.specs.Prelude.{ℕ, List, [], ◌∷◌, ◌++◌}
use Rattle.std.specs.Fmt.{decimal}
use Rattle.pf_report.specs.declared.word.Word.{Word}
use Rattle.pf_report.specs.declared.word.Word.TheVariants.{Text, Number}

-- the text of a word
abbrev pub word_text : Word → List ℕ
word_text (Text t) = t.now
word_text (Number n) = decimal n

-- words with a blank in front of each
abbrev pub words_behind : List (List ℕ) → List ℕ
words_behind [] = []
words_behind (w ∷ ws) = 32 ∷ (w ++ words_behind ws)

-- words with a blank between them
abbrev pub words_joined : List (List ℕ) → List ℕ
words_joined [] = []
words_joined (w ∷ ws) = w ++ words_behind ws
