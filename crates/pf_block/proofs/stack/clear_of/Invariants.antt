use Rattle.std.proofs.Common.{◌≡◌, ◌≤◌, true, length, map, take}
use Rattle.std.specs.Arc.{arc_value}
use Rattle.pf_block.specs.Stacks.{is_clear}
use Rattle.pf_block.proofs.stack.clear_of.Given as goal

abbrev pub invariant-loop-i : goal.invariant-loop-i
invariant-loop-i l = record {
  within : l.clear ≤ length l.blocks;
  clear : is_clear (take l.clear (map arc_value l.blocks)) (take l.i l.block) ≡ true;
}
