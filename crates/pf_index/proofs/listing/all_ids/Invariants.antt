use Rattle.std.proofs.Common.{◌≡◌, ◌++◌, drop}
use Rattle.pf_index.specs.Listing.{all_from}
use Rattle.pf_index.proofs.listing.all_ids.Given as goal

abbrev pub invariant-loop-id : goal.invariant-loop-id
invariant-loop-id l = l.ids.items ++ all_from l.id (drop l.id l.snap.labels) ≡ all_from 0 l.snap.labels
