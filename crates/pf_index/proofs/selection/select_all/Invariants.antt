use Rattle.std.proofs.Common.{◌≡◌, ◌<◌, length, map, take}
use Rattle.std.specs.List.{All}
use Rattle.pf_model.specs.Binding.{accepted_ids}
use Rattle.pf_index.proofs.selection.select_all.Given as goal

abbrev pub invariant-loop-one : goal.invariant-loop-one
invariant-loop-one l = record {
  accepted : map (λ ids. ids.items) l.lists.items ≡ map (λ ms. accepted_ids ms l.snap.labels) (take l.one-index l.matchers);
  within : All (λ ids. All (λ id. id < length l.snap.labels) ids.items) l.lists.items;
}
