use Rattle.std.proofs.Common.{ap, ◌∙◌}
use Rattle.pf_model.specs.Merging.{below}
use Rattle.pf_columns.specs.Columns.{value_in}
use Rattle.pf_columns.specs.Steps.{bad_in, clash}
use Rattle.pf_columns.proofs.Fusing.{clashes_are}
use Rattle.pf_columns.proofs.steps.add_clashes.Goals as goal

pub returns : goal.returns
returns c =
    let bads = c.deref-3.ensures.value in
    let a = c.deref-4.ensures.value ∙ ap (λ d. d.values) c.a.view_is in
    let b = c.deref-5.ensures.value ∙ ap (λ d. d.values) c.b.view_is in
    clashes_are c.args.len c.args.bads.now.items _ c.args.a.now c.args.b.now
    (c.in_ok-bads.ensures ∙ λ i. below (λ k. clash (bad_in (bads i) k) (value_in (a i) k) (value_in (b i) k)) c.args.len)
