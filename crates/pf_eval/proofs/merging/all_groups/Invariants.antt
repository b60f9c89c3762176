use Rattle.std.proofs.Common.{◌≡◌, ◌++◌, length, map}
use Rattle.std.specs.Vec.Iter.{into_iter_items, into_iter_len}
use Rattle.pf_model.specs.Lists.{Each}
use Rattle.pf_shard.specs.declared.parts.Part.TheVariants.{Groups}
use Rattle.pf_eval.specs.Merged.{IsGroups}
use Rattle.pf_eval.proofs.merging.all_groups.Given as goal

abbrev pub invariant-loop-part : goal.invariant-loop-part
invariant-loop-part l = record {
  done : map Groups l.found.items ++ into_iter_items l.part-iterator ≡ l.fn.parts.items;
  groups : Each IsGroups (into_iter_items l.part-iterator);
  left : into_iter_len l.part-iterator ≡ length (into_iter_items l.part-iterator);
}
