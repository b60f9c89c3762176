use Rattle.std.proofs.Common.{◌≡◌, ◌+◌, ◌++◌, length, map, drop, take}
use Rattle.std.specs.Arc.{arc_value}
use Rattle.pf_block.specs.IndexStacks.{joined}
use Rattle.pf_block.specs.SeriesIds.{ids_from}
use Rattle.pf_block.proofs.postings.Postings.add_to.Given as goal

abbrev pub invariant-loop-layer : goal.invariant-loop-layer
invariant-loop-layer l = record {
  behind : l.behind ≡ l.self-inside.behind + length (joined (take l.layer-index (map arc_value l.self-inside.more.now)));
  ids : l.ids.items ≡ (l.fn.ids.items ++ map (λ id. l.self-inside.first + id) l.self-inside.rest.now) ++ ids_from l.self-inside.behind l.self-inside.name.now l.self-inside.value.now (joined (take l.layer-index (map arc_value l.self-inside.more.now)));
}
