use Rattle.std.proofs.Common.{◌≡◌, ◌+◌, ◌<◌, drop, map}
use Rattle.std.specs.Option.{option_map, option_or}
use Rattle.pf_model.specs.Trees.{sizes, tree_of, trees_of}
use Rattle.pf_model.specs.Typing.{first_wrong, only}
use Rattle.pf_types.specs.Faults.{all_from, capped, fault_of}
use Rattle.pf_types.specs.Rules.{wanted_kinds}
use Rattle.pf_types.proofs.kinds.+kinds.Given as goal

abbrev pub invariant-operands_from-loop-place : goal.invariant-operands_from-loop-place
invariant-operands_from-loop-place l = record {
  fits : l.next < 4294967296;
  next :
      capped (l.next + sizes (trees_of (map tree_of (drop l.place l.args))))
      ≡ capped (capped (l.at + 1) + sizes (trees_of (map tree_of l.args)));
  fault :
      all_from l.next (trees_of (map tree_of (drop l.place l.args)))
      ≡ all_from (capped (l.at + 1)) (trees_of (map tree_of l.args));
  wrong :
      option_or (option_map fault_of l.wrong)
      (first_wrong l.at (map only (drop l.place (wanted_kinds l.wants))) (map tree_of (drop l.place l.args)))
      ≡ first_wrong l.at (map only (wanted_kinds l.wants)) (map tree_of l.args);
}
