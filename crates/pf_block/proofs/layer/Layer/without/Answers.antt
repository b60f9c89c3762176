use Rattle.std.proofs.Common.{ap, ◌∙◌, get_or}
use Rattle.pf_block.specs.Blocks.{samples_in}
use Rattle.pf_block.specs.Samples.{rises}
use Rattle.pf_block.proofs.Layering.{cut_next, spared_rises}
use Rattle.pf_block.proofs.layer.Layer.without.Goals as goal

pub loop-id-preserved : goal.loop-id-preserved
loop-id-preserved c = record {
  same = cut_next c.args.series.now c.loop-id.id-index _ _ c.loop-id.layer c.in_ok-layer-2.layer c.loop-id-test.true c.in_ok-layer-2.ensures ∙ c.loop-id.invariant.same;
  rises = λ id. ap (λ l. rises (samples_in id l)) c.in_ok-layer-2.ensures ∙ spared_rises _ _ (get_or c.args.series.now c.loop-id.id-index 0) id c.loop-id.layer (c.loop-id.invariant.rises id);
}
