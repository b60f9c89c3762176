use Rattle.std.proofs.Common.{List, ◌∷◌, sym, subst}
use Rattle.std.specs.Prelude.{IfOk}
use Rattle.pf_eval.specs.Arguments.{Splits}
use Rattle.pf_eval.specs.declared.node.Node.{Node}
use Rattle.pf_eval.proofs.SplitArguments.{text_given}
use Rattle.pf_eval.proofs.arguments.with_node.Goals as goal

pub returns-in-Scalar : goal.returns-in-Scalar
returns-in-Scalar c =
    subst (λ n. IfOk c.with_scalar.result (λ s. (all rest : List Node) → Splits c.args.len all c.args.splitting (n ∷ rest) → Splits c.args.len all s rest))
    (sym c.in-Scalar.is) c.with_scalar.ensures

pub returns-in-Vector : goal.returns-in-Vector
returns-in-Vector c =
    subst (λ n. IfOk c.with_vector.result (λ s. (all rest : List Node) → Splits c.args.len all c.args.splitting (n ∷ rest) → Splits c.args.len all s rest))
    (sym c.in-Vector.is) c.with_vector.ensures

pub returns-in-Text : goal.returns-in-Text
returns-in-Text c = text_given c.args.len c.args.splitting c.args.node c.in-Text.text c.with_text.result c.in-Text.is c.with_text.ensures
