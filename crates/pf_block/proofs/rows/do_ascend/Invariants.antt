use Rattle.std.proofs.Common.{◌≡◌, ◌-◌, drop}
use Rattle.pf_block.specs.Blocks.{ascends, entries_with}
use Rattle.pf_block.proofs.rows.do_ascend.Given as goal

abbrev pub invariant-loop-i : goal.invariant-loop-i
invariant-loop-i l = ascends (entries_with (drop (l.i - 1) l.ids) (drop (l.i - 1) l.rows)) ≡ ascends (entries_with l.ids l.rows)
