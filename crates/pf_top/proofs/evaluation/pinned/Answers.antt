use Rattle.pf_top.proofs.Batches.{batch_stands}
use Rattle.pf_top.proofs.evaluation.pinned.Goals as goal

pub returns : goal.returns
returns c =
    batch_stands _ c.args.batch.now.rows c.in_ok-pin.pin c.in_ok-log.log c.append.new.self c.in_ok-log.ensures.stands c.in_ok-append.ensures.stands c.in_ok-pin.ensures
