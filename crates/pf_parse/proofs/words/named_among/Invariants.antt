use Rattle.std.proofs.Common.{◌≡◌, drop}
use Rattle.pf_model.specs.Words.{named_among}
use Rattle.pf_parse.proofs.words.named_among.Given as goal

abbrev pub invariant-loop-function : goal.invariant-loop-function
invariant-loop-function l = named_among (drop l.function-index l.functions) l.name ≡ named_among l.functions l.name
