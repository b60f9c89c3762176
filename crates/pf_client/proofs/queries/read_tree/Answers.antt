use Rattle.pf_model.specs.Trees.{tree_of}
use Rattle.pf_client.proofs.TextReads.{lawful_read}
use Rattle.pf_client.proofs.queries.read_tree.Goals as goal

pub returns-clause-right : goal.returns-clause-right
returns-clause-right c refs agrees text query =
    let read = c.in_ok-query.ensures in
    lawful_read refs text (tree_of c.args.expr) _ _ (read.right refs agrees) (c.in_ok-selector.ensures.right refs (read.still refs agrees)) query
