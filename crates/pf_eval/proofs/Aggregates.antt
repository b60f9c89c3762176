-- An aggregation of nodes at a step.
use Rattle.std.proofs.Common.{◌≡◌, ℤ, Option, Some, None, List, refl, sym, ◌∙◌}
use Rattle.pf_model.specs.declared.cell.Element.{Element}
use Rattle.pf_model.specs.declared.cell.ErrorKind.{ErrorKind}
use Rattle.pf_model.specs.declared.cell.StepCell.TheVariants.{Good}
use Rattle.pf_model.specs.declared.functions.AggOp.{AggOp}
use Rattle.pf_model.specs.Aggregation.{aggregate}
use Rattle.pf_model.specs.Clauses.{Grouped}
use Rattle.pf_model.specs.InstantFunctions.{first_scalar}
use Rattle.pf_model.specs.Outcomes.{Outcome, aggregation, elements, first_bad, of_cell, scalars_of, vector_of}
use Rattle.pf_columns.specs.Steps.{unless_bad}
use Rattle.pf_eval.specs.Arguments.{outcome_unless}

pub aggregated_step : (op : AggOp) (g : Grouped) (os : List Outcome) (b : Option ErrorKind) (p : Option ℤ) (es : List Element)
    → ((o : Outcome) → first_bad os o ≡ outcome_unless b o) → (b ≡ None → vector_of os ≡ es) → (b ≡ None → first_scalar (scalars_of os) ≡ p)
    → of_cell (unless_bad b (Good (aggregate op g.without g.labels p es))) ≡ aggregation op g os
aggregated_step op g os None p es f v s =
    sym (f (elements (aggregate op g.without g.labels (first_scalar (scalars_of os)) (vector_of os)))
    ∙ (λ i. elements (aggregate op g.without g.labels (s refl i) (v refl i))))
aggregated_step op g os (Some kind) p es f v s = sym (f (elements (aggregate op g.without g.labels (first_scalar (scalars_of os)) (vector_of os))))
