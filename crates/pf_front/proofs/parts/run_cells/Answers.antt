-- The cells of a run, or the first of its steps that has an error.
use Rattle.std.proofs.Common.{ℕ, Some, length, refl, sym, ap, ◌∙◌, subst}
use Rattle.pf_base.specs.Grids.{points}
use Rattle.pf_columns.specs.Columns.{cells_from}
use Rattle.pf_columns.specs.Steps.{IsFirstBad, NoneBad}
use Rattle.pf_front.proofs.Failures.{cells_many, run_fails, run_good}
use Rattle.pf_front.specs.Spans.{AreCellsAt}
use Rattle.pf_front.proofs.parts.run_cells.Goals as goal

pub returns-in-Some-clause-values : goal.returns-in-Some-clause-values
returns-in-Some-clause-values c = λ samples all.
    run_fails samples c.args.legs.now.resolved.query c.in_ok-steps.steps c.args.run c.in-Some.bad (c.in_ok-steps.ensures.value samples all)
    (subst (λ n. IsFirstBad c.in_ok-steps.steps.bads n c.in-Some.bad) c.len.ensures.value c.in-Some.ensures)
    ∙ ap (λ (t : ℕ). Some (record { time = t; kind = c.in-Some.bad.kind })) (sym c.at.ensures.value)

pub returns-clause-whole : goal.returns-clause-whole
returns-clause-whole c =
    (refl, ap length c.in_ok-cells.ensures ∙ cells_many c.in_ok-steps.steps.columns 0 c.len-2.result ∙ c.len-2.ensures.value)

pub returns-clause-values : goal.returns-clause-values
returns-clause-values c = λ samples all.
    subst (AreCellsAt samples c.args.legs.now.resolved.query (points c.args.run))
    (sym (c.in_ok-cells.ensures ∙ ap (cells_from c.in_ok-steps.steps.columns 0) c.len-2.ensures.value))
    (run_good samples c.args.legs.now.resolved.query c.in_ok-steps.steps c.args.run (c.in_ok-steps.ensures.value samples all)
    (subst (NoneBad c.in_ok-steps.steps.bads) c.len.ensures.value c.in_default.ensures))
