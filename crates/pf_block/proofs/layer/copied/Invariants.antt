use Rattle.std.proofs.Common.{◌≡◌, ◌++◌, drop, filter}
use Rattle.pf_block.specs.Layers.{stays}
use Rattle.pf_block.proofs.layer.copied.Given as goal

abbrev pub invariant-loop-i : goal.invariant-loop-i
invariant-loop-i l = l.copy ++ filter (stays l.parts) (drop l.i l.block) ≡ filter (stays l.parts) l.block
