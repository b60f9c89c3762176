use Rattle.std.proofs.Common.{arith}
use Rattle.pf_index.proofs.Covered.{ids_more}
use Rattle.pf_index.proofs.listing.all_ids.Goals as goal

pub loop-id-preserved : goal.loop-id-preserved
loop-id-preserved c =
    ids_more c.args.snap.now.labels c.loop-id.id c.loop-id.ids.items c.push.new.self.items _ (omega (arith, c.series_count-id-end.ensures.value, c.loop-id-test.true)) c.in_ok-push.ensures.items c.loop-id.invariant
