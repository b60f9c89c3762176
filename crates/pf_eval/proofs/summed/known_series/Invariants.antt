use Rattle.std.proofs.Common.{◌≡◌, map, take}
use Rattle.pf_model.specs.Lists.{Each}
use Rattle.pf_model.specs.Merging.{below}
use Rattle.pf_columns.specs.Groups.{those_of}
use Rattle.pf_shard.specs.Groups.{IsWithin, known_over}
use Rattle.pf_selectors.specs.SeriesColumns.{series_column}
use Rattle.pf_eval.proofs.summed.known_series.Given as goal

abbrev pub invariant-loop-i : goal.invariant-loop-i
invariant-loop-i l = record {
  known : l.known ≡ below (λ g. known_over l.times.len (those_of g (take l.i l.places) (take l.i (map (series_column l.snap l.times) l.ids)))) l.count;
  within : Each (λ ps. Each (IsWithin l.i) ps) l.known;
}
