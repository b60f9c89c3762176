use Rattle.pf_model.specs.Trees.{tree_of}
use Rattle.pf_print.proofs.CanonicalDerived.{printed_derives}
use Rattle.pf_print.proofs.ReadBack.{printed_back, printed_only}
use Rattle.pf_print.proofs.printer.print.Goals as goal

pub returns-clause-derives : goal.returns-clause-derives
returns-clause-derives c =
    printed_derives (tree_of c.args.expr.now) c.printed.result c.printed.ensures

pub returns-clause-read_back : goal.returns-clause-read_back
returns-clause-read_back c =
    printed_back (tree_of c.args.expr.now) c.printed.result c.printed.ensures

pub returns-clause-only : goal.returns-clause-only
returns-clause-only c =
    printed_only (tree_of c.args.expr.now) c.printed.result c.printed.ensures
