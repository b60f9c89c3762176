use Rattle.std.proofs.Common.{rules, ◌++◌, ◌+◌, ◌<◌, length, map, drop, ap, ◌∙◌}
use Rattle.pf_columns.specs.Groups.{place_in}
use Rattle.pf_columns.proofs.GroupKeys.{one_place}
use Rattle.pf_columns.proofs.groups.own_places.Goals as goal

pub loop-i-preserved : goal.loop-i-preserved
loop-i-preserved c =
    let sets = c.args.sets.now in
    let within : c.loop-i.i < length sets = search rules in
    ap (λ ns. ns ++ map (place_in sets) (drop (c.loop-i.i + 1) sets)) c.in_ok-push.ensures.items
    ∙ one_place sets c.loop-i.i c.loop-i.found.items c.requires within c.loop-i.invariant
