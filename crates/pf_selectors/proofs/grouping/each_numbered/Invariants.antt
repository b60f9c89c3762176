use Rattle.std.proofs.Common.{take}
use Rattle.pf_model.specs.Aggregation.{group_key}
use Rattle.pf_selectors.specs.Grouping.{AreNoted, AreNumbered}
use Rattle.pf_selectors.proofs.grouping.each_numbered.Given as goal

abbrev pub invariant-loop-id : goal.invariant-loop-id
invariant-loop-id l = record {
  noted : AreNoted (group_key l.grouping.without l.grouping.labels) l.snap.labels l.numbering.keys.items l.numbering.noted.items;
  numbered : AreNumbered (group_key l.grouping.without l.grouping.labels) l.snap.labels (take l.id-index l.ids) l.numbering.keys.items l.numbering.numbers.items;
}
