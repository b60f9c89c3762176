use Rattle.std.proofs.Common.{◌≡◌, ◌++◌, drop, length, map}
use Rattle.std.specs.Vec.Iter.{into_iter_items, into_iter_len}
use Rattle.pf_columns.specs.Ranks.{labelled}
use Rattle.pf_eval.specs.Ranked.{labels_at}
use Rattle.pf_eval.proofs.ranked.add_labelled.Given as goal

abbrev pub invariant-loop-place : goal.invariant-loop-place
invariant-loop-place l = record {
  done : l.found.items ++ labelled (map (labels_at l.snap l.ids) (drop l.place-index l.places)) (into_iter_items l.rest)
      ≡ l.fn.found.items ++ labelled (map (labels_at l.snap l.ids) l.places) l.fn.columns.items;
  rest : into_iter_len l.rest ≡ length (into_iter_items l.rest);
}
