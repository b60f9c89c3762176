use Rattle.std.proofs.Common.{◌≡◌, take}
use Rattle.pf_model.proofs.matchers.all_asking.Given as goal

abbrev pub invariant-loop-test : goal.invariant-loop-test
invariant-loop-test l = l.asking.items ≡ take l.test-index l.tests
