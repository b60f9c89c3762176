use Rattle.std.proofs.Common.{arith}
use Rattle.std.proofs.lemmas.Grind.{common_steps}
use Rattle.std.proofs.lemmas.Int.{ints}
use Rattle.pf_selectors.proofs.RunValues.{over_next, places_rise}
use Rattle.pf_selectors.proofs.windows.values_over.Goals as goal

pub window-requires-clause-order : goal.window-requires-clause-order
window-requires-clause-order c =
    places_rise c.args.samples.now c.moved-start.result c.moved-end.result _ _ c.moved-start.ensures.value c.moved-end.ensures.value
    (omega (arith, ints, c.start_of-from.ensures.value, c.at-to.ensures.value, c.start_of-from.ensures.within, c.at-to.ensures.within))

pub loop-i-preserved : goal.loop-i-preserved
loop-i-preserved c = record {
  start = c.moved-start.ensures.within;
  end = c.moved-end.ensures.within;
  found =
      over_next c.args.f c.args.range c.args.samples.now c.args.times.now c.loop-i.i c.loop-i.found.items c.push.new.self.items c.range_value.result c.window.result _ _ _ _
      c.in_ok-push.ensures.items c.range_value.ensures c.window.ensures.window
      (omega (arith, ints, c.start_of-from.ensures.value, c.start_of-from.ensures.within)) (omega (arith, ints, c.at-to.ensures.value, c.at-to.ensures.within))
      (omega (arith, ints, c.start_of-from.ensures.value, c.start_of-from.ensures.within)) (omega (arith, ints, c.at-to.ensures.value, c.at-to.ensures.within))
      c.loop-i.invariant.found;
}

pub returns : goal.returns
returns c = grind (arith, common_steps)
