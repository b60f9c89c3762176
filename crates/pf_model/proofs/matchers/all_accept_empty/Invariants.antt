use Rattle.std.proofs.Common.{◌≡◌, drop}
use Rattle.pf_model.specs.Selection.{accepts_empty}
use Rattle.pf_model.proofs.matchers.all_accept_empty.Given as goal

abbrev pub invariant-loop-test : goal.invariant-loop-test
invariant-loop-test l = accepts_empty (drop l.test-index l.tests) ≡ accepts_empty l.tests
