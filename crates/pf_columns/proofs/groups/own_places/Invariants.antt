use Rattle.std.proofs.Common.{◌≡◌, ◌++◌, map, drop}
use Rattle.pf_columns.specs.Groups.{place_in}
use Rattle.pf_columns.proofs.groups.own_places.Given as goal

abbrev pub invariant-loop-i : goal.invariant-loop-i
invariant-loop-i l = l.found.items ++ map (place_in l.sets) (drop l.i l.sets) ≡ map (place_in l.sets) l.sets
