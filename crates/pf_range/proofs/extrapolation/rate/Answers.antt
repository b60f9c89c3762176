use Rattle.std.proofs.Common.{ap, ◌∙◌, pos, Some, w64}
use Rattle.std.proofs.lemmas.Int.{to_z-of_z}
use Rattle.std.specs.Prelude.{◌*ℤ◌, int_div}
use Rattle.pf_base.specs.Arithmetic.{clamp}
use Rattle.pf_range.specs.Extrapolation.{growth_of}
use Rattle.pf_range.proofs.Stretches.{range_is, range_within}
use Rattle.pf_range.proofs.Windows.{extends, of_two_some}
use Rattle.pf_range.proofs.extrapolation.rate.Goals as goal

pub per_second-requires-clause-range : goal.per_second-requires-clause-range
per_second-requires-clause-range c =
    range_within _ _ _ _ _ (extends c.args.from c.args.to c.args.window c.requires.window c.in_ok-change.ensures.2)

pub returns : goal.returns
returns c =
    let is = c.in_ok-change.ensures in
    let same = is.0 ∙ (λ i. growth_of c.args.window (to_z-of_z w64 c.args.from c.ranges.from i) (to_z-of_z w64 c.args.to c.ranges.to i)) in
    let range = range_is _ _ _ _ _ (extends c.args.from c.args.to c.args.window c.requires.window is.2) in
    ap Some (c.per_second.ensures ∙ (λ i. clamp (int_div ((same i).value *ℤ (same i).covered *ℤ pos 1000) ((same i).span *ℤ range i)))) ∙ of_two_some c.args.window _ is.2
