use Rattle.std.proofs.Common.{◌≡◌, ◌+◌, length, map, drop, take}
use Rattle.std.specs.Arc.{arc_value}
use Rattle.pf_block.specs.IndexStacks.{joined}
use Rattle.pf_block.specs.SeriesIds.{ids_with}
use Rattle.pf_block.proofs.postings.Postings.len.Given as goal

abbrev pub invariant-loop-layer : goal.invariant-loop-layer
invariant-loop-layer l = l.count ≡ length l.self-inside.rest.now + length (ids_with l.self-inside.name.now l.self-inside.value.now (joined (take l.layer-index (map arc_value l.self-inside.more.now))))
