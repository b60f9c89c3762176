use Rattle.std.proofs.Common.{rules, ◌+◌, ◌-◌, ◌*◌}
use Rattle.pf_model.specs.Trees.{tree_of}
use Rattle.pf_types.proofs.OverGrids.{is_put_in}
use Rattle.pf_types.proofs.bound.BoundQuery.asked.Goals as goal

pub asked_with-requires-clause-lawful : goal.asked_with-requires-clause-lawful
asked_with-requires-clause-lawful c =
    let g = c.grid_in-grid.result in
    is_put_in g.start (g.start + (g.len - 1) * g.step) (tree_of c.self.inside.expr) _ _ _ _ _ _ c.keep_texts.ensures (search rules) (search rules) c.self.invariant
    c.in_ok-expr.ensures.tree c.in_ok-expr.ensures.evaluated (search rules) (search rules)
