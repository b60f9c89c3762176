use Rattle.std.proofs.Common.{◌≡◌, ◌++◌, drop}
use Rattle.std.specs.List.{filter}
use Rattle.pf_block.specs.Layers.{labelled}
use Rattle.pf_block.specs.Samples.{is_outside}
use Rattle.pf_block.proofs.part.outside.Given as goal

abbrev pub invariant-loop-sample : goal.invariant-loop-sample
invariant-loop-sample l = l.block ++ labelled l.id (filter (is_outside l.from l.to) (drop l.sample-index l.samples)) ≡ labelled l.id (filter (is_outside l.from l.to) l.samples)
