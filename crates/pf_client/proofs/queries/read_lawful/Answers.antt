use Rattle.pf_model.specs.Trees.{Tree, tree_of}
use Rattle.pf_client.proofs.TextReads.{empty_fate, empty_selector_right, pattern_fate, refused_pattern_right}
use Rattle.pf_client.proofs.queries.read_lawful.Goals as goal

pub returns-in-Err-Pattern-clause-right : goal.returns-in-Err-Pattern-clause-right
returns-in-Err-Pattern-clause-right c refs agrees text query =
    let fate = pattern_fate Tree refs (tree_of c.args.expr) _ c.in-Err-Pattern.which c.in-Err-Pattern.field-0-is (c.in-Err-Pattern.ensures.fate refs agrees) in
    rw c.in-Err-Pattern.which-is (refused_pattern_right refs text (tree_of c.args.expr) _ fate query)

pub returns-in-Err-Empty-clause-right : goal.returns-in-Err-Empty-clause-right
returns-in-Err-Empty-clause-right c refs agrees text query =
    let fate = empty_fate Tree refs (tree_of c.args.expr) _ c.in-Err-Empty.which c.in-Err-Empty.field-0-is (c.in-Err-Empty.ensures.fate refs agrees) in
    rw c.in-Err-Empty.which-is (empty_selector_right refs text (tree_of c.args.expr) _ fate query)
