use Rattle.std.proofs.Common.{◌≡◌, ◌++◌, take, codes, map}
use Rattle.pf_model.specs.Lists.{separated}
use Rattle.pf_print.specs.Printed.{expr_text}
use Rattle.pf_print.proofs.printer.+push_query.Given as goal

abbrev pub invariant-push_args-loop-number : goal.invariant-push_args-loop-number
invariant-push_args-loop-number l = l.out ≡ l.initial.out ++ separated (codes ", ") (map expr_text (take l.number l.args))
