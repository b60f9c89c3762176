use Rattle.std.proofs.Common.{◌+◌, ◌≤◌, length}
use Rattle.pf_script.specs.IdLists.{issued_in}
use Rattle.pf_script.proofs.Going.{Going}
use Rattle.pf_script.proofs.read.read_script.Given as goal

abbrev pub invariant-loop-text : goal.invariant-loop-text
invariant-loop-text l = record {
  going : Going l.stepped_allowed l.bytes l.rest l.number (issued_in l.ids) l.lines.items;
  room : l.number + length l.rest ≤ length l.bytes;
  short : length l.bytes ≤ 67108864;
}

abbrev pub decreases-loop-text : goal.decreases-loop-text
decreases-loop-text l = length l.rest
