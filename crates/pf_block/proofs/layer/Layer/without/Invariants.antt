use Rattle.std.proofs.Common.{◌≡◌, ℕ, true, drop}
use Rattle.pf_block.specs.Blocks.{samples_in}
use Rattle.pf_block.specs.Layers.{cut_by}
use Rattle.pf_block.specs.Samples.{rises}
use Rattle.pf_block.proofs.layer.Layer.without.Given as goal

abbrev pub invariant-loop-id : goal.invariant-loop-id
invariant-loop-id l = record {
  same : cut_by (drop l.id-index l.series) l.from l.to l.layer ≡ cut_by l.series l.from l.to l.self;
  rises : (id : ℕ) → rises (samples_in id l.layer) ≡ true;
}
