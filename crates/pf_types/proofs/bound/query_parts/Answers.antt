use Rattle.pf_model.specs.Trees.{tree_of}
use Rattle.pf_types.proofs.BindSteps.{few_nodes}
use Rattle.pf_types.proofs.bound.query_parts.Goals as goal

pub parts_of-requires : goal.parts_of-requires
parts_of-requires c = rw c.deref.ensures.value (few_nodes (λ e. tree_of e.now) _ (tree_of c.args.expr.now) c.in_ok-nodes.ensures c.requires)
