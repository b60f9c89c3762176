use Rattle.std.proofs.Common.{◌≡◌, drop, length}
use Rattle.pf_model.specs.Selection.{accepts}
use Rattle.pf_model.proofs.matchers.MatchersAsker.accepts.Given as goal

abbrev pub invariant-loop-i : goal.invariant-loop-i
invariant-loop-i l = record {
  same : l.self-inside.tests.items ≡ l.fn.self;
  end : l.i-end ≡ length l.fn.self;
  rest : accepts (drop l.i l.fn.self) l.labels ≡ accepts l.fn.self l.labels;
}
