use Rattle.std.proofs.Common.{◌≡◌, length}
use Rattle.pf_journal.specs.Scripts.{without_blanks}
use Rattle.pf_script.proofs.words.front_of.Given as goal

abbrev pub invariant-loop-last : goal.invariant-loop-last
invariant-loop-last l = without_blanks l.front ≡ without_blanks l.bytes

abbrev pub decreases-loop-last : goal.decreases-loop-last
decreases-loop-last l = length l.front
