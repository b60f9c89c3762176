use Rattle.std.proofs.Common.{◌≡◌, ◌++◌, take, codes, map}
use Rattle.pf_model.specs.Lists.{all_behind}
use Rattle.pf_model.specs.Canonical.{matcher_text}
use Rattle.pf_print.proofs.printer.push_matchers_behind.Given as goal

abbrev pub invariant-loop-matcher : goal.invariant-loop-matcher
invariant-loop-matcher l = l.out ≡ l.initial.out ++ all_behind (codes ",") (map matcher_text (take l.matcher-index l.matchers))
