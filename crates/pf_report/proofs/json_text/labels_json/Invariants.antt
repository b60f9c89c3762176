use Rattle.std.proofs.Common.{◌≡◌, [], ◌∷◌, take}
use Rattle.json.specs.Token.{begin_object}
use Rattle.pf_report.proofs.LabelTokens.{tokens_of}
use Rattle.pf_report.proofs.json_text.labels_json.Given as goal

abbrev pub invariant-loop-i : goal.invariant-loop-i
invariant-loop-i l = record {
  alone : l.writer.before ≡ [];
  tokens : l.writer.tokens ≡ begin_object ∷ tokens_of (take l.i l.labels);
}
