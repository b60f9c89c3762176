use Rattle.std.proofs.Common.{refl, ap, ◌∙◌}
use Rattle.pf_columns.specs.Steps.{bad_in}
use Rattle.pf_eval.specs.Arguments.{vector_or}
use Rattle.pf_eval.specs.Nodes.{first_of}
use Rattle.pf_eval.proofs.SplitArguments.{vector_splits}
use Rattle.pf_eval.proofs.arguments.with_vector.Goals as goal

pub returns : goal.returns
returns c = λ all rest.
    vector_splits c.args.len all rest c.args.splitting _ c.args.steps
    (λ k l. c.in_ok-bads.ensures k l ∙ ap (λ d. first_of (bad_in c.args.splitting.bads.items k) (bad_in d.bads k)) c.steps.view_is)
    (λ cs. c.first_vector.ensures.columns cs ∙ ap (λ d. vector_or c.args.splitting.vector d.columns) c.steps.view_is)
    c.first_vector.ensures.rising refl refl
