use Rattle.std.proofs.Common.{◌≡◌, ◌≤◌, drop, length}
use Rattle.pf_query.specs.Covers.{covers}
use Rattle.pf_query.proofs.cover.covers.Given as goal

abbrev pub invariant-loop-done : goal.invariant-loop-done
invariant-loop-done l = record {
  within : l.from ≤ length l.runs;
  rest : covers (drop l.from l.runs) (drop l.done-index l.cells) ≡ covers l.runs l.cells;
}
