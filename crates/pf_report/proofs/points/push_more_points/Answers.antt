use Rattle.std.proofs.Common.{◌≡◌, ◌∷◌, rules, arith, length, take, vec_len}
use Rattle.std.proofs.lemmas.Grind.{common_steps}
use Rattle.pf_model.specs.Json.{point_text}
use Rattle.pf_report.proofs.Joined.{comma_step, join_buffered, kept_on}
use Rattle.pf_report.proofs.points.push_more_points.Goals as goal

pub loop-point-preserved : goal.loop-point-preserved
loop-point-preserved c =
    let before : length c.args.out.now.items ≡ vec_len c.args.out.now = first_of (search rules, grind (arith, common_steps)) in
    let now : length c.loop-point.out.items ≡ vec_len c.loop-point.out = first_of (search rules, grind (arith, common_steps)) in
    let room = c.in_ok-at.ensures.room in
    record {
      within = omega arith;
      ok = comma_step point_text c.args.points.now c.loop-point.point-index c.point-item.result _ _ _ c.loop-point-test.true c.point-item.is
          (join_buffered c.loop-point.out.items c.make_room.new.out.items (take c.loop-point.at c.loop-point.buffer) (take c.in_ok-at.at c.loop-point.buffer)
          (take c.write_point-at.result c.write_point-at.new.buffer) (44 ∷ point_text c.point-item.result) c.in_ok-at.ensures.ok c.write_point-at.ensures.written) c.loop-point.invariant.ok;
      kept = kept_on _ _ _ _ _ c.loop-point.invariant.kept c.in_ok-at.ensures.kept before now;
    }

pub returns-in_err-at-clause-kept : goal.returns-in_err-at-clause-kept
returns-in_err-at-clause-kept c =
    let before : length c.args.out.now.items ≡ vec_len c.args.out.now = first_of (search rules, grind (arith, common_steps)) in
    let now : length c.loop-point.out.items ≡ vec_len c.loop-point.out = first_of (search rules, grind (arith, common_steps)) in
    kept_on _ _ _ _ _ c.loop-point.invariant.kept c.make_room.ensures.kept before now
