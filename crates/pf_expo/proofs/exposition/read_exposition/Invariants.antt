use Rattle.std.proofs.Common.{◌+◌, ◌≤◌, length}
use Rattle.pf_expo.specs.Answers.{taken_of}
use Rattle.pf_expo.specs.Series.{AreRead}
use Rattle.pf_expo.proofs.Files.{Going}
use Rattle.pf_expo.proofs.exposition.read_exposition.Given as goal

abbrev pub invariant-loop-text : goal.invariant-loop-text
invariant-loop-text l = record {
  going : Going l.default_time l.bytes l.rest (taken_of l.taken) l.line;
  room : l.taken.skipped + length l.rest ≤ length l.bytes;
  read : AreRead l.taken.known.labels;
}

abbrev pub decreases-loop-text : goal.decreases-loop-text
decreases-loop-text l = length l.rest
