use Rattle.std.proofs.Common.{None, [], ap, ◌∙◌}
use Rattle.pf_columns.specs.Columns.{value_in}
use Rattle.pf_columns.specs.Steps.{bad_in}
use Rattle.pf_columns.proofs.Below.{read_below}
use Rattle.pf_eval.specs.Nodes.{applied, onto, scalar_unless}
use Rattle.pf_eval.specs.declared.change.Change.TheVariants as change
use Rattle.pf_eval.proofs.Changes.{negated_scalar}
use Rattle.pf_eval.proofs.change.negated_scalars.Goals as goal

pub returns : goal.returns
returns c =
    let s = c.args.scalars in
    λ k h. ap (scalar_unless (bad_in s.bads.items k)) (read_below None c.in_ok-values.values.items (λ j. onto (value_in c.deref.result.now j) (applied change.Negation (value_in [] j))) c.args.len k c.in_ok-values.ensures h)
    ∙ ap (λ ws. scalar_unless (bad_in s.bads.items k) (onto (value_in ws k) (applied change.Negation None))) c.deref.ensures.value
    ∙ negated_scalar (bad_in s.bads.items k) (value_in s.values.items k)
