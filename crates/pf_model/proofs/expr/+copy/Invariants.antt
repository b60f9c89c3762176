use Rattle.std.proofs.Common.{◌≡◌, take, map}
use Rattle.pf_model.specs.Trees.{tree_of}
use Rattle.pf_model.proofs.expr.+copy.Given as goal

abbrev pub invariant-copy_all-loop-arg : goal.invariant-copy_all-loop-arg
invariant-copy_all-loop-arg l = map tree_of l.copies.items ≡ map tree_of (take l.arg-index l.arg-items)
