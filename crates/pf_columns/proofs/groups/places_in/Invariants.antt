use Rattle.std.proofs.Common.{◌≡◌, ◌++◌, map, drop, IfSome}
use Rattle.std.specs.Option.{option_copied}
use Rattle.pf_columns.specs.Groups.{place_in}
use Rattle.pf_columns.proofs.groups.places_in.Given as goal

abbrev pub invariant-loop-labels : goal.invariant-loop-labels
invariant-loop-labels l = record {
  found : l.found.items ++ map (place_in l.sets) (drop l.labels-index l.all) ≡ map (place_in l.sets) l.all;
  last : IfSome (option_copied l.last) (λ m. l.place ≡ place_in l.sets m);
}
