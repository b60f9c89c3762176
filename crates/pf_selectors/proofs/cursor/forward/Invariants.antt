use Rattle.std.proofs.Common.{◌<◌, ◌≤◌}
use Rattle.pf_block.specs.Samples.{until}
use Rattle.pf_selectors.proofs.cursor.forward.Given as goal

abbrev pub invariant-loop-i : goal.invariant-loop-i
invariant-loop-i l = l.near < l.i → l.i ≤ until l.time l.samples
