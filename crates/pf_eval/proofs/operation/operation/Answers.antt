use Rattle.std.proofs.Common.{sym, ◌∙◌}
use Rattle.pf_model.specs.Outcomes.{operation}
use Rattle.pf_eval.specs.Nodes.{node_at}
use Rattle.pf_eval.proofs.operation.operation.Goals as goal

pub returns-in_ok-found-in-Scalar-Scalar-clause-value : goal.returns-in_ok-found-in-Scalar-Scalar-clause-value
returns-in_ok-found-in-Scalar-Scalar-clause-value c = λ k h.
    c.in_ok-found-in-Scalar-Scalar.ensures k h
    ∙ (λ i. operation c.args.op c.args.matching.now (node_at (sym c.in-Scalar-Scalar.is-0 i) k) (node_at (sym c.in-Scalar-Scalar.is-1 i) k))

pub returns-in_ok-found-in-Scalar-Vector-clause-value : goal.returns-in_ok-found-in-Scalar-Vector-clause-value
returns-in_ok-found-in-Scalar-Vector-clause-value c = λ k h.
    c.in_ok-found-in-Scalar-Vector.ensures k h
    ∙ (λ i. operation c.args.op c.args.matching.now (node_at (sym c.in-Scalar-Vector.is-0 i) k) (node_at (sym c.in-Scalar-Vector.is-1 i) k))

pub returns-in_ok-found-in-Vector-Scalar-clause-value : goal.returns-in_ok-found-in-Vector-Scalar-clause-value
returns-in_ok-found-in-Vector-Scalar-clause-value c = λ k h.
    c.in_ok-found-in-Vector-Scalar.ensures k h
    ∙ (λ i. operation c.args.op c.args.matching.now (node_at (sym c.in-Vector-Scalar.is-0 i) k) (node_at (sym c.in-Vector-Scalar.is-1 i) k))
