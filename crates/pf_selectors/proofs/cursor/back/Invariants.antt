use Rattle.std.proofs.Common.{◌≤◌, length}
use Rattle.pf_block.specs.Samples.{until}
use Rattle.pf_selectors.proofs.cursor.back.Given as goal

abbrev pub invariant-loop-count : goal.invariant-loop-count
invariant-loop-count l = record {
  within : l.count ≤ length l.samples;
  behind : until l.time l.samples ≤ l.count;
}

abbrev pub decreases-loop-count : goal.decreases-loop-count
decreases-loop-count l = l.count
