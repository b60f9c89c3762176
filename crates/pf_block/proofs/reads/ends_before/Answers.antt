use Rattle.std.proofs.Common.{rules, w64}
use Rattle.std.proofs.lemmas.Int.{to_z-of_z}
use Rattle.pf_block.proofs.Reading.{before_last}
use Rattle.pf_block.proofs.Stretches.{ends_rise}
use Rattle.pf_block.proofs.reads.ends_before.Goals as goal

pub returns : goal.returns
returns c = λ h.
    ends_rise c.args.ones.now c.args.others.now c.in-Some.last.now c.in-Some-first.first.now c.requires.ones c.requires.others c.in-Some.ensures.value c.in-Some-first.ensures.value
    (before_last _ _ _ _ (to_z-of_z w64 c.in-Some.last.now.time (search rules)) (to_z-of_z w64 c.in-Some-first.first.now.time (search rules)) h)
