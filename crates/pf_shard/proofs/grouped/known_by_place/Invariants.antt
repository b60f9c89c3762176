use Rattle.std.proofs.Common.{◌≡◌, take}
use Rattle.pf_model.specs.Lists.{Each}
use Rattle.pf_model.specs.Merging.{below}
use Rattle.pf_columns.specs.Groups.{those_of}
use Rattle.pf_shard.specs.Groups.{IsWithin, known_over}
use Rattle.pf_shard.proofs.grouped.known_by_place.Given as goal

abbrev pub invariant-loop-i : goal.invariant-loop-i
invariant-loop-i l = record {
  known : l.found ≡ below (λ g. known_over l.len (those_of g (take l.i l.places) (take l.i l.columns))) l.count;
  within : Each (λ ps. Each (IsWithin l.i) ps) l.found;
}
