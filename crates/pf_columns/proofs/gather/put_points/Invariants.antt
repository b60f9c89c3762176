use Rattle.std.proofs.Common.{◌≡◌, vec_capacity}
use Rattle.pf_base.specs.Grids.{points}
use Rattle.pf_columns.proofs.PointWalk.{AreSoFar}
use Rattle.pf_columns.proofs.gather.put_points.Given as goal

abbrev pub invariant-loop-i : goal.invariant-loop-i
invariant-loop-i l = record {
  points : AreSoFar l.initial.found.items l.values (points l.grid) l.from l.found.items l.i;
  room : vec_capacity l.found ≡ vec_capacity l.initial.found;
}
