use Rattle.std.proofs.Common.{ap, ◌∙◌}
use Rattle.pf_model.specs.Merging.{below}
use Rattle.pf_columns.specs.Columns.{value_in}
use Rattle.pf_columns.specs.Steps.{either}
use Rattle.pf_columns.proofs.Fusing.{fusion_is}
use Rattle.pf_columns.proofs.steps.add_values.Goals as goal

pub returns : goal.returns
returns c =
    let a = c.deref.ensures.value ∙ ap (λ d. d.values) c.a.view_is in
    let b = c.deref-2.ensures.value ∙ ap (λ d. d.values) c.b.view_is in
    fusion_is c.args.len c.args.a.now c.args.b.now _ (ap (λ d. d.labels) c.a.view_is)
    (c.in_ok-a-inside.ensures ∙ λ i. below (λ k. either (value_in (a i) k) (value_in (b i) k)) c.args.len)
