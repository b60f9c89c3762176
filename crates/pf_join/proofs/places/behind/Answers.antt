use Rattle.std.proofs.Common.{sym, subst}
use Rattle.std.specs.List.Sorted.{IsSorted}
use Rattle.pf_join.specs.KeyPlaces.{place_cmp}
use Rattle.pf_join.proofs.Finding.{rest_of, sorted_drop}
use Rattle.pf_join.proofs.places.behind.Goals as goal

pub returns-clause-items : goal.returns-clause-items
returns-clause-items c = rest_of c.args.count c.args.entries.now

pub returns-clause-sorted : goal.returns-clause-sorted
returns-clause-sorted c =
    subst (IsSorted place_cmp) (sym (rest_of c.args.count c.args.entries.now)) (sorted_drop place_cmp c.args.count c.args.entries.now c.requires.sorted)
