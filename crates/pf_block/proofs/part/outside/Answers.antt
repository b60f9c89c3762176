use Rattle.std.proofs.Common.{sym, ap, ◌∙◌, ◌++◌, arith}
use Rattle.std.specs.List.{filter}
use Rattle.pf_block.specs.Layers.{labelled}
use Rattle.pf_block.specs.Samples.{is_outside}
use Rattle.pf_block.proofs.Pairing.{fits, goes_on}
use Rattle.pf_block.proofs.Parts.{labelled_ascends, part_goes, part_stays}
use Rattle.pf_block.proofs.Searches.{rises_filter}
use Rattle.pf_block.proofs.part.outside.Goals as goal

pub loop-sample-preserved-then-not-is_outside : goal.loop-sample-preserved-then-not-is_outside
loop-sample-preserved-then-not-is_outside c =
    ap (λ l. c.loop-sample.block ++ l) (part_goes (is_outside _ _) c.args.id c.args.samples.now c.loop-sample.sample-index c.sample-item.result (omega arith) c.sample-item.is (sym c.is_outside.ensures ∙ c.if-not-is_outside.true))
    ∙ c.loop-sample.invariant

pub with-requires : goal.with-requires
with-requires c =
    fits c.loop-sample.block (labelled c.args.id (filter (is_outside _ _) c.args.samples.now)) _ _ (c.args.id, c.sample-item.result)
    (part_stays (is_outside _ _) c.args.id c.args.samples.now c.loop-sample.sample-index c.sample-item.result (omega arith) c.sample-item.is (sym c.is_outside.ensures ∙ c.if-not-is_outside.false))
    c.loop-sample.invariant (labelled_ascends c.args.id (filter (is_outside _ _) c.args.samples.now) (rises_filter (is_outside _ _) c.args.samples.now c.requires))

pub loop-sample-preserved : goal.loop-sample-preserved
loop-sample-preserved c =
    goes_on c.loop-sample.block (labelled c.args.id (filter (is_outside _ _) c.args.samples.now)) _ _ (c.args.id, c.sample-item.result)
    (part_stays (is_outside _ _) c.args.id c.args.samples.now c.loop-sample.sample-index c.sample-item.result (omega arith) c.sample-item.is (sym c.is_outside.ensures ∙ c.if-not-is_outside.false))
    c.loop-sample.invariant _ c.in_ok-block.ensures
