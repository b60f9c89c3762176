use Rattle.std.proofs.Common.{◌-ℤ◌, pos, refl, arith, ap, ◌∙◌}
use Rattle.std.proofs.lemmas.Grind.{common_steps}
use Rattle.std.proofs.lemmas.Int.{ints}
use Rattle.pf_block.specs.Samples.{until}
use Rattle.pf_selectors.proofs.Places.{last_in_at}
use Rattle.pf_selectors.proofs.RunValues.{note_next}
use Rattle.pf_selectors.proofs.windows.note_present.Goals as goal
use Rattle.pf_selectors.specs.Times.{time_at}

pub loop-i-preserved : goal.loop-i-preserved
loop-i-preserved c =
    let times = c.args.times.now in
    let xs = c.args.samples.now in
    let i = c.loop-i.i in
    record {
      within = c.moved-count.ensures.within;
      noted =
          note_next c.args.range xs times c.args.values.now c.loop-i.values _ i c.unless.result c.index-values-i.result c.newest-found.result c.loop-i-test.true
          refl c.unless.ensures c.index-values-i.is
          (last_in_at xs c.moved-count.result c.newest-found.result _ (time_at times i -ℤ pos c.args.range) (time_at times i) c.requires.rises
          (c.moved-count.ensures.value ∙ ap (λ t. until t xs) (omega (arith, ints, c.at.ensures.value, c.at.ensures.within)))
          c.newest-found.ensures (omega (arith, ints, c.start_of-from.ensures.value, c.start_of-from.ensures.within)))
          c.loop-i.invariant.noted;
    }

pub returns-clause-size : goal.returns-clause-size
returns-clause-size c = grind (arith, common_steps)

pub returns-clause-values : goal.returns-clause-values
returns-clause-values c = grind (arith, common_steps)
