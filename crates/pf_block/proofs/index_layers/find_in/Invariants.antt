use Rattle.std.proofs.Common.{◌≡◌, length, map, take, None}
use Rattle.std.specs.Arc.{arc_value}
use Rattle.pf_block.specs.IndexStacks.{joined}
use Rattle.pf_block.specs.SeriesIds.{id_of}
use Rattle.pf_block.proofs.index_layers.find_in.Given as goal

abbrev pub invariant-loop-layer : goal.invariant-loop-layer
invariant-loop-layer l = record {
  first : l.first ≡ length (joined (take l.layer-index (map arc_value l.layers)));
  none : id_of l.labels (joined (take l.layer-index (map arc_value l.layers))) ≡ None;
}
