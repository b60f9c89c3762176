use Rattle.std.proofs.Common.{◌≡◌, ◌≤◌, ◌+◌, ◌-◌, ◌++◌, length, drop}
use Rattle.pf_block.specs.Blocks.{merged}
use Rattle.pf_block.proofs.block.Block.merged.Given as goal

abbrev pub invariant-loop-i : goal.invariant-loop-i
invariant-loop-i l = record {
  within : l.i ≤ length l.self;
  inside : l.j ≤ length l.other;
  same : l.block ++ merged (drop l.i l.self) (drop l.j l.other) ≡ merged l.self l.other;
}

abbrev pub decreases-loop-i : goal.decreases-loop-i
decreases-loop-i l = l.rows - (l.i + l.j)
