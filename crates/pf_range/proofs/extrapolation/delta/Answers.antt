use Rattle.std.proofs.Common.{ap, ◌∙◌, Some, w64}
use Rattle.std.proofs.lemmas.Int.{to_z-of_z}
use Rattle.std.specs.Prelude.{◌*ℤ◌, int_div}
use Rattle.pf_base.specs.Arithmetic.{clamp}
use Rattle.pf_range.specs.Extrapolation.{change_of}
use Rattle.pf_range.specs.declared.extrapolation.Change.{Change}
use Rattle.pf_range.proofs.Windows.{of_two_some}
use Rattle.pf_range.proofs.extrapolation.delta.Goals as goal

pub returns : goal.returns
returns c =
    let is = c.in_ok-change.ensures in
    let same = is.0 ∙ (λ i. change_of c.args.window (to_z-of_z w64 c.args.from c.ranges.from i) (to_z-of_z w64 c.args.to c.ranges.to i)) in
    ap Some (c.stretched.ensures ∙ ap (λ (k : Change). clamp (int_div (k.value *ℤ k.covered) k.span)) same) ∙ of_two_some c.args.window _ is.2
