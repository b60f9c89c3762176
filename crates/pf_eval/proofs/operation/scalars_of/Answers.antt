use Rattle.std.proofs.Common.{None, ◌∙◌}
use Rattle.pf_model.specs.Matching.{of_scalars}
use Rattle.pf_columns.specs.Columns.{value_in}
use Rattle.pf_columns.specs.Steps.{bad_in}
use Rattle.pf_columns.proofs.Below.{read_below}
use Rattle.pf_eval.specs.Nodes.{scalar_unless}
use Rattle.pf_eval.proofs.Changes.{scalar_step}
use Rattle.pf_eval.proofs.operation.scalars_of.Goals as goal

pub returns : goal.returns
returns c =
    let l = c.args.left in
    let r = c.args.right in
    λ k h. (λ i. scalar_unless (c.in_ok-bads.ensures k h i)
    ((read_below None c.in_ok-values.values.items (λ j. of_scalars c.args.op (value_in c.deref.result.now j) (value_in c.deref-2.result.now j)) c.args.len k c.in_ok-values.ensures h
    ∙ λ j. of_scalars c.args.op (value_in (c.deref.ensures.value j) k) (value_in (c.deref-2.ensures.value j) k)) i))
    ∙ scalar_step c.args.op c.args.matching.now (bad_in l.bads.items k) (bad_in r.bads.items k) (value_in l.values.items k) (value_in r.values.items k)
