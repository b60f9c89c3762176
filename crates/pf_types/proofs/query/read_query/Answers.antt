use Rattle.std.proofs.Common.{rules}
use Rattle.pf_model.specs.Trees.{tree_of}
use Rattle.pf_types.proofs.OverGrids.{query_has_text}
use Rattle.pf_types.proofs.query.read_query.Goals as goal

pub returns-clause-written : goal.returns-clause-written
returns-clause-written c = query_has_text c.args.text.now (tree_of c.in_ok-expr.expr) (search rules)
