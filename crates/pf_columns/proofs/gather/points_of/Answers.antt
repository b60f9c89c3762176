use Rattle.std.proofs.Common.{◌≡◌, drop, take, filter, is_some, length, vec_capacity, ap, arith, sym, ◌∙◌}
use Rattle.pf_base.specs.Grids.{points}
use Rattle.pf_columns.specs.Columns.{points_in}
use Rattle.pf_columns.proofs.PointRoom.{count_is}
use Rattle.pf_columns.proofs.gather.points_of.Goals as goal

pub put_points-requires-clause-room : goal.put_points-requires-clause-room
put_points-requires-clause-room c =
    let vs = c.args.values.now in
    let ts = points c.args.grid.now in
    let same : length (points_in ts c.args.from vs) ≡ vec_capacity c.in_ok-points.points =
    count_is ts c.args.from vs ∙ ap (λ n. length (filter is_some (take n (drop c.args.from vs)))) (sym c.len.ensures.all)
    ∙ ap (λ us. length (filter is_some us)) (sym c.window.ensures) ∙ sym c.count_of-count.ensures ∙ sym c.in_ok-points.ensures.exact in
    let none = ap length c.in_ok-points.ensures.items in
    omega (arith, same, none)
