use Rattle.std.proofs.Common.{rules, map, w64}
use Rattle.std.proofs.lemmas.Int.{to_z-of_z}
use Rattle.pf_block.specs.Blocks.{entry_of}
use Rattle.pf_block.proofs.Pairing.{fits, goes_on, sorted_next}
use Rattle.pf_block.proofs.block.sorted.Goals as goal

pub with-requires : goal.with-requires
with-requires c =
    let e = c.entry-item.result in
    fits c.loop-entry.block (map entry_of c.args.entries.now) _ _ _ (sorted_next c.args.entries.now c.loop-entry.entry-index e _ c.loop-entry-test.true c.entry-item.is (to_z-of_z w64 e.1.0 (search rules))) c.loop-entry.invariant c.requires

pub loop-entry-preserved : goal.loop-entry-preserved
loop-entry-preserved c =
    let e = c.entry-item.result in
    goes_on c.loop-entry.block (map entry_of c.args.entries.now) _ _ _ (sorted_next c.args.entries.now c.loop-entry.entry-index e _ c.loop-entry-test.true c.entry-item.is (to_z-of_z w64 e.1.0 (search rules))) c.loop-entry.invariant _ c.in_ok-block-2.ensures
