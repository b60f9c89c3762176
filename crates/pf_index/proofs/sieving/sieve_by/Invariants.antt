use Rattle.std.proofs.Common.{◌≡◌, take}
use Rattle.pf_index.specs.Listing.{accepted_in}
use Rattle.pf_index.specs.Sieving.{asked}
use Rattle.pf_index.proofs.sieving.sieve_by.Given as goal

abbrev pub invariant-loop-i : goal.invariant-loop-i
invariant-loop-i l = record {
  same : l.asker ≡ l.initial.asker;
  sieved : l.ids.items ≡ accepted_in (asked l.compares (take l.i l.matchers)) l.snap.labels l.initial.ids.items;
}
