use Rattle.std.proofs.Common.{ap, sym, ◌∙◌}
use Rattle.pf_model.specs.Outcomes.{negated}
use Rattle.pf_eval.specs.Nodes.{node_at}
use Rattle.pf_eval.proofs.change.negation.Goals as goal

pub returns-in_ok-found-in-Scalar-clause-value : goal.returns-in_ok-found-in-Scalar-clause-value
returns-in_ok-found-in-Scalar-clause-value c = λ k h.
    c.in_ok-found-in-Scalar.ensures k h ∙ ap (λ n. negated (node_at n k)) (sym c.in-Scalar.is)

pub returns-in_ok-found-in-Vector-clause-value : goal.returns-in_ok-found-in-Vector-clause-value
returns-in_ok-found-in-Vector-clause-value c = λ k h.
    c.in_ok-found-in-Vector.ensures k h ∙ ap (λ n. negated (node_at n k)) (sym c.in-Vector.is)
