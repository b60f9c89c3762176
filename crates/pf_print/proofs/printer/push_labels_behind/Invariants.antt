use Rattle.std.proofs.Common.{◌≡◌, ◌++◌, take, codes}
use Rattle.pf_model.specs.Lists.{all_behind}
use Rattle.pf_print.proofs.printer.push_labels_behind.Given as goal

abbrev pub invariant-loop-label : goal.invariant-loop-label
invariant-loop-label l = l.out ≡ l.initial.out ++ all_behind (codes ", ") (take l.label-index l.labels)
