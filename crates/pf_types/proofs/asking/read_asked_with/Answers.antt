use Rattle.std.proofs.Common.{rules, refl, ◌+◌, ◌-◌, ◌*◌}
use Rattle.std.proofs.lemmas.Result.{err_from_is_err_and}
use Rattle.pf_model.specs.Trees.{tree_of}
use Rattle.pf_types.proofs.OverGrids.{is_put_in}
use Rattle.pf_types.proofs.asking.read_asked_with.Goals as goal

pub asked_with-requires-clause-lawful : goal.asked_with-requires-clause-lawful
asked_with-requires-clause-lawful c =
    let g = c.grid_in.result in
    is_put_in g.start (g.start + (g.len - 1) * g.step) (tree_of c.expr.inside.expr) _ _ _ _ _ _ c.keep_texts.ensures (search rules) (search rules) c.expr.invariant c.put_in-expr.ensures.tree
    c.put_in-expr.ensures.evaluated refl refl

pub returns-in_err-expr : goal.returns-in_err-expr
returns-in_err-expr c refused agrees =
    let p = err_from_is_err_and c.from_residual.result c.from_residual.ensures.1 in
    rw (p.1, p.2) (c.in_err-expr.ensures.refused refused)
