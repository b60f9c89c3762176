use Rattle.std.proofs.Common.{◌≡◌, ◌++◌, drop, map, take, vec_len}
use Rattle.pf_report.specs.Words.{word_text, words_behind}
use Rattle.pf_report.proofs.word.push_more_words.Given as goal

abbrev pub invariant-loop-word : goal.invariant-loop-word
invariant-loop-word l = record {
  ok : l.out.items ++ words_behind (map word_text (drop l.word-index l.words))
      ≡ l.initial.out.items ++ words_behind (map word_text l.words);
  kept : take (vec_len l.initial.out) l.out.items ≡ l.initial.out.items;
}
