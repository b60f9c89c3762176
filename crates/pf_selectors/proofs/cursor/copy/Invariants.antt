use Rattle.std.proofs.Common.{◌≡◌, ◌++◌}
use Rattle.pf_block.specs.Samples.{window_of}
use Rattle.pf_block.specs.Snaps.{samples_of}
use Rattle.pf_selectors.proofs.cursor.copy.Given as goal

abbrev pub invariant-loop-sample : goal.invariant-loop-sample
invariant-loop-sample l = record {
  goes : goal.iterator-loop-sample.can_next l.sample-iterator × goal.iterator-loop-sample.is_finite l.sample-iterator;
  left : l.room.items ++ l.sample-iterator ≡ window_of (samples_of l.snap l.id) l.after l.upto;
}
