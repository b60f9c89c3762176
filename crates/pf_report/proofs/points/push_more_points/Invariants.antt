use Rattle.std.proofs.Common.{◌≡◌, ◌≤◌, ◌++◌, drop, take, vec_len}
use Rattle.pf_model.specs.Json.{point_text}
use Rattle.pf_model.specs.Lists.{comma_before}
use Rattle.pf_report.proofs.points.push_more_points.Given as goal

abbrev pub invariant-loop-point : goal.invariant-loop-point
invariant-loop-point l = record {
  within : l.at ≤ 1024;
  ok : (l.out.items ++ take l.at l.buffer) ++ comma_before point_text (drop l.point-index l.points)
      ≡ l.initial.out.items ++ comma_before point_text l.points;
  kept : take (vec_len l.initial.out) l.out.items ≡ l.initial.out.items;
}
