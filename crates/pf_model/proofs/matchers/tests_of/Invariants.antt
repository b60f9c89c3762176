use Rattle.std.proofs.Common.{◌≡◌, ℕ, List, drop, false, take}
use Rattle.pf_match.specs.Tables.{Agrees, Stays}
use Rattle.pf_model.specs.Selection.{all_compared, all_meant, any_refused}
use Rattle.pf_model.proofs.matchers.tests_of.Given as goal

abbrev pub invariant-loop-matcher : goal.invariant-loop-matcher
invariant-loop-matcher l = record {
  built : l.tests.items ≡ take l.matcher-index l.matchers;
  meant : all_meant (drop l.matcher-index l.matchers) ≡ all_meant l.matchers;
  refused : all_compared (drop l.matcher-index l.matchers) ≡ false → all_compared l.matchers ≡ false;
  fate : (refused : List (List ℕ)) → Agrees l.patterns refused → any_refused refused (drop l.matcher-index l.matchers) ≡ any_refused refused l.matchers;
  still : Stays l.initial.patterns l.patterns;
}
