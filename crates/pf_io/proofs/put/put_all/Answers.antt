use Rattle.std.proofs.Common.{◌∙◌, arith, length, ◌<◌}
use Rattle.pf_io.proofs.Growing.{grows_on, ends_within}
use Rattle.pf_io.proofs.put.put_all.Goals as goal

pub loop-at-preserved : goal.loop-at-preserved
loop-at-preserved g c =
    let inside : c.loop-at.at < length c.args.bytes.now = omega arith in
    record {
      within = ends_within _ _ _ inside c.in_ok-at.ensures.within;
      written = grows_on _ _ _ c.args.bytes.now c.loop-at.at c.in_ok-at.field-0 c.loop-at.invariant.written c.in_ok-at.ensures.written;
      steady = c.in_ok-at.ensures.steady ∙ c.loop-at.invariant.steady;
      counted = omega (arith, c.loop-at.invariant.counted, c.write.ensures.counted);
    }
