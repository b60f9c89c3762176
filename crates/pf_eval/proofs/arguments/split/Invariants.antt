use Rattle.std.proofs.Common.{◌≡◌, length}
use Rattle.std.specs.Vec.Iter.{into_iter_items, into_iter_len}
use Rattle.pf_eval.specs.Arguments.{Splits}
use Rattle.pf_eval.proofs.arguments.split.Given as goal

abbrev pub invariant-loop-arg : goal.invariant-loop-arg
invariant-loop-arg l =
    Splits l.len l.fn.args.items l.splitting (into_iter_items l.arg-iterator)
    × (into_iter_len l.arg-iterator ≡ length (into_iter_items l.arg-iterator))
