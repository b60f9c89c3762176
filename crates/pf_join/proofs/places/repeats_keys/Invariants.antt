use Rattle.std.proofs.Common.{◌≡◌, drop}
use Rattle.std.specs.Option.{option_copied}
use Rattle.pf_join.specs.Neighbours.{repeats, repeats_after}
use Rattle.pf_join.specs.KeyPlaces.{key_of}
use Rattle.pf_join.proofs.places.repeats_keys.Given as goal

abbrev pub invariant-loop-entry : goal.invariant-loop-entry
invariant-loop-entry l = repeats_after key_of (option_copied l.last) (drop l.entry-index l.entries) ≡ repeats key_of l.entries
