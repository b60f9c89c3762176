use Rattle.std.proofs.Common.{◌<◌, subst, sym, ap, ◌∙◌}
use Rattle.pf_model.specs.Evaluation.{eval}
use Rattle.pf_model.specs.Outcomes.{step_cell}
use Rattle.pf_model.specs.Trees.{tree_of}
use Rattle.pf_eval.proofs.bound.steps_over.Goals as goal

pub returns : goal.returns
returns c = λ samples stands apart k h.
    c.in_ok-steps.ensures k
    ∙ ap step_cell (c.in_ok-found.ensures.node samples stands apart k (subst (λ n. k < n) (sym c.times_of-times.ensures.len) h))
    ∙ ap (λ t. eval samples (tree_of c.args.expr.now) t) (c.times_of-times.ensures.times k h)
