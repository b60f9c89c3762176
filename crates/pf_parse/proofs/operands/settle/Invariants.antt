use Rattle.std.proofs.Common.{◌≡◌, length}
use Rattle.pf_parse.specs.Reading.{settle}
use Rattle.pf_parse.proofs.operands.settle.Given as goal

abbrev pub invariant-loop-frame : goal.invariant-loop-frame
invariant-loop-frame l = settle l.level l.arg l.stack ≡ settle l.level l.fn.arg l.initial.stack

abbrev pub decreases-loop-frame : goal.decreases-loop-frame
decreases-loop-frame l = length l.stack
