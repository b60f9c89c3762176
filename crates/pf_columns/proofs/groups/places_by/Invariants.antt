use Rattle.std.proofs.Common.{◌≡◌, ◌++◌, map, drop, get_or}
use Rattle.pf_columns.proofs.groups.places_by.Given as goal

abbrev pub invariant-loop-number : goal.invariant-loop-number
invariant-loop-number l =
    l.found.items ++ map (λ n. get_or l.places n 0) (drop l.number-index l.numbers) ≡ map (λ n. get_or l.places n 0) l.numbers
