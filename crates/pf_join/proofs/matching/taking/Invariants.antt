use Rattle.std.proofs.Common.{◌≡◌, true, drop}
use Rattle.std.specs.List.{list_all}
use Rattle.pf_base.specs.LabelSets.{is_label_name}
use Rattle.pf_model.specs.Matching.{taking}
use Rattle.pf_join.proofs.matching.taking.Given as goal

abbrev pub invariant-loop-name : goal.invariant-loop-name
invariant-loop-name l = record {
  goes : taking (drop l.name-index l.names) l.one_side l.found ≡ taking l.names l.one_side l.many;
  named : list_all is_label_name (drop l.name-index l.names) ≡ true;
}
