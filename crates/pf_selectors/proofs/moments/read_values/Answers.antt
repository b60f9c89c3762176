use Rattle.std.proofs.Common.{ap, ◌∙◌}
use Rattle.pf_block.specs.Samples.{rises}
use Rattle.pf_selectors.proofs.MomentSamples.{moments_rise}
use Rattle.pf_selectors.proofs.moments.read_values.Goals as goal

pub returns-clause-rises : goal.returns-clause-rises
returns-clause-rises c = ap rises c.in_ok-push_values.ensures ∙ moments_rise c.args.at.now c.args.values.now c.requires.rising
