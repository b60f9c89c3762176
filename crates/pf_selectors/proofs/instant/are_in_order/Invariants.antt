use Rattle.std.proofs.Common.{◌≡◌, ◌<◌, IfSome, drop, length, map, None, option_map}
use Rattle.pf_block.specs.Snaps.{labels_of}
use Rattle.pf_columns.specs.Steps.{rise_above}
use Rattle.pf_selectors.proofs.instant.are_in_order.Given as goal

abbrev pub invariant-loop-id : goal.invariant-loop-id
invariant-loop-id l = record {
  within : IfSome l.last (λ id. id < length l.snap.labels);
  rise : rise_above (option_map (labels_of l.snap) l.last) (map (labels_of l.snap) (drop l.id-index l.ids)) ≡ rise_above None (map (labels_of l.snap) l.ids);
}
