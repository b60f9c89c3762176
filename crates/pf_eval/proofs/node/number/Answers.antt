use Rattle.std.proofs.Common.{Some, None, ap, ◌∙◌, arith}
use Rattle.pf_columns.specs.Columns.{value_in}
use Rattle.pf_columns.specs.Steps.{bad_in}
use Rattle.pf_columns.proofs.Below.{read_below}
use Rattle.pf_eval.specs.Nodes.{scalar_unless}
use Rattle.pf_eval.proofs.node.number.Goals as goal

pub returns-clause-value : goal.returns-clause-value
returns-clause-value c = λ k h.
    (λ i. scalar_unless (bad_in (c.new.ensures.items i) k) (value_in c.loop.values.items k))
    ∙ ap (scalar_unless None) (read_below None c.loop.values.items (λ j. Some c.args.value) c.loop.counter k c.loop.invariant (omega (arith, c.loop-test.false, h)))
