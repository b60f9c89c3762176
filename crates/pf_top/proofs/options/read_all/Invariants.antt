use Rattle.std.proofs.Common.{◌≡◌, drop}
use Rattle.pf_top.specs.WordSteps.{any, given_in, next_in, nothing_given, read_all}
use Rattle.pf_top.proofs.options.read_all.Given as goal

abbrev pub invariant-loop-word : goal.invariant-loop-word
invariant-loop-word l = read_all (given_in l.given) (next_in l.next) (drop l.word-index l.words) ≡ read_all nothing_given any l.words
