use Rattle.std.proofs.Common.{Vec, Global, rules, ◌≡◌, length, vec_capacity, ap, arith, pos, to_z, w64, sym, ◌∙◌}
use Rattle.std.specs.Vec.{vec_len}
use Rattle.std.proofs.lemmas.Int.{ints}
use Rattle.pf_base.specs.Grids.{points}
use Rattle.pf_base.specs.declared.plain.Sample.{Sample}
use Rattle.pf_columns.proofs.PointRoom.{room_there}
use Rattle.pf_columns.proofs.PointWalk.{point_more, point_none}
use Rattle.pf_columns.proofs.gather.put_points.Goals as goal
use Rattle.pf_columns.proofs.gather.put_points.Goals.{in-Some, in_default}

pub push_reserved-requires : goal.push_reserved-requires
push_reserved-requires c =
    let there = room_there c.args.found.now.items c.args.values.now (points c.args.grid.now) c.args.from c.loop-i.i c.at-time.result (vec_capacity c.args.found.now) c.loop-i.found.items c.in-Some.value
    c.at-time.ensures.point (sym c.in-Some.is ∙ c.value_of.ensures) c.loop-i.invariant.points c.requires.room in
    let many : vec_len c.loop-i.found ≡ length c.loop-i.found.items = search rules in
    let room = c.loop-i.invariant.room in
    omega (arith, there, many, room)

pub loop-i-preserved : goal.loop-i-preserved
loop-i-preserved c =
    let vs = c.args.values.now in
    let ts = points c.args.grid.now in
    let z : to_z w64 c.at-time.result ≡ pos c.at-time.result = omega (arith, ints, c.at-time.ensures.within) in
    elim c.match-value_of.branch [
      | in-Some w ↦
          let items = ap (λ (v : Vec Sample Global). v.items) w.found-is ∙ w.push_reserved.ensures.items in record {
            points = point_more c.args.found.now.items vs ts c.args.from c.loop-i.i c.at-time.result c.loop-i.found.items c.match-value_of.found.items _ w.in-Some.value
                c.at-time.ensures.point z (sym w.in-Some.is ∙ c.value_of.ensures) items c.loop-i.invariant.points;
            room = ap (λ (v : Vec Sample Global). vec_capacity v) w.found-is ∙ w.push_reserved.ensures.capacity ∙ c.loop-i.invariant.room;
          }
      | in_default w ↦
          let items = ap (λ (v : Vec Sample Global). v.items) w.found-is in record {
            points = point_none c.args.found.now.items vs ts c.args.from c.loop-i.i c.at-time.result c.loop-i.found.items c.match-value_of.found.items
                c.at-time.ensures.point (sym w.in_default.is ∙ c.value_of.ensures) items c.loop-i.invariant.points;
            room = ap (λ (v : Vec Sample Global). vec_capacity v) w.found-is ∙ c.loop-i.invariant.room;
          }
    ]
