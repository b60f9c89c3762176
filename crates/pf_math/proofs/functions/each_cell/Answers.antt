use Rattle.std.proofs.Common.{rules, ◌≡◌, ap, ◌∙◌, to_z, of_z, w64}
use Rattle.pf_model.specs.Cells.{cell_of}
use Rattle.pf_math.specs.Arguments.{beside}
use Rattle.pf_math.specs.EachValue.{value_by}
use Rattle.pf_math.proofs.Instants.{each_cell_is}
use Rattle.pf_math.proofs.functions.each_cell.Goals as goal

pub returns : goal.returns
returns c =
    let scalars : c.deref.result.now ≡ c.args.args.now.scalars = search rules in
    let time : to_z w64 (of_z w64 c.args-2.inside.time) ≡ c.args.args.now.time = search rules in
    c.in_ok-cell.ensures
    ∙ ap cell_of c.in_ok-found.ensures
    ∙ each_cell_is c.args.f (beside c.args.args.now) c.args.elements.now c.in-Some.change (c.in-Some.ensures.law c.requires)
    (λ v. c.in-Some.ensures.value.1 v ∙ λ i. value_by c.args.f (scalars i) (time i) v)
