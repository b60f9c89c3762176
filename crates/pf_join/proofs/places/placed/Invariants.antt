use Rattle.std.proofs.Common.{◌≡◌, ◌+◌, ◌++◌, length}
use Rattle.std.specs.Vec.Iter.{into_iter_items, into_iter_len}
use Rattle.pf_join.specs.KeyPlaces.{placed}
use Rattle.pf_join.proofs.places.placed.Given as goal

abbrev pub invariant-loop-key : goal.invariant-loop-key
invariant-loop-key l =
    (l.found.items ++ placed l.place (into_iter_items l.key-iterator) ≡ placed 0 l.fn.keys.items)
    × (into_iter_len l.key-iterator ≡ length (into_iter_items l.key-iterator))
    × (l.place + length (into_iter_items l.key-iterator) ≡ length l.fn.keys.items)
