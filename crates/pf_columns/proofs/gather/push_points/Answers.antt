use Rattle.std.proofs.Common.{Vec, Global, ◌≡◌, ap, arith, pos, to_z, w64, sym, ◌∙◌}
use Rattle.std.proofs.lemmas.Int.{ints}
use Rattle.pf_base.specs.Grids.{points}
use Rattle.pf_base.specs.declared.plain.Sample.{Sample}
use Rattle.pf_columns.proofs.PointWalk.{point_more, point_none}
use Rattle.pf_columns.proofs.gather.push_points.Goals as goal
use Rattle.pf_columns.proofs.gather.push_points.Goals.{in-Some+in_ok-push, in_default}

pub loop-i-preserved : goal.loop-i-preserved
loop-i-preserved c =
    let vs = c.args.values.now in
    let ts = points c.args.grid.now in
    let z : to_z w64 c.at-time.result ≡ pos c.at-time.result = omega (arith, ints, c.at-time.ensures.within) in
    elim c.match-value_of.branch [
      | in-Some+in_ok-push w ↦
          let items = ap (λ (v : Vec Sample Global). v.items) w.found-is ∙ w.in_ok-push.ensures.items in
          point_more c.args.found.now.items vs ts c.args.from c.loop-i.i c.at-time.result c.loop-i.found.items c.match-value_of.found.items _ w.in-Some.value
          c.at-time.ensures.point z (sym w.in-Some.is ∙ c.value_of.ensures) items c.loop-i.invariant
      | in_default w ↦
          let items = ap (λ (v : Vec Sample Global). v.items) w.found-is in
          point_none c.args.found.now.items vs ts c.args.from c.loop-i.i c.at-time.result c.loop-i.found.items c.match-value_of.found.items
          c.at-time.ensures.point (sym w.in_default.is ∙ c.value_of.ensures) items c.loop-i.invariant
    ]
