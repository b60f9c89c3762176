use Rattle.std.proofs.Common.{◌≡◌, drop}
use Rattle.pf_model.specs.Selection.{accepts}
use Rattle.pf_model.proofs.matchers.all_accept.Given as goal

abbrev pub invariant-loop-test : goal.invariant-loop-test
invariant-loop-test l = accepts (drop l.test-index l.tests) l.labels ≡ accepts l.tests l.labels
