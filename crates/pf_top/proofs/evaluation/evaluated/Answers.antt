use Rattle.std.proofs.Common.{rules, ◌≡◌, false, subst}
use Rattle.std.specs.Arc.{arc_value}
use Rattle.pf_block.specs.Snaps.{SnapData}
use Rattle.pf_journal.specs.Asking.{asked_over}
use Rattle.pf_model.specs.Log.{batch_samples}
use Rattle.pf_store.specs.Standing.{StandsFor}
use Rattle.pf_top.proofs.Printed.{body_printed}
use Rattle.pf_top.proofs.evaluation.evaluated.Goals as goal

pub returns : goal.returns
returns c =
    let pin = c.in_ok-pin.ensures in
    let snap : c.in_ok-pin.pin.snap ≡ c.deref-2.result.now = search rules in
    let stands = subst (λ (s : SnapData). StandsFor s (batch_samples c.args.batch.now.rows)) snap pin.0 in
    body_printed (batch_samples c.args.batch.now.rows) (asked_over false c.args.grid (arc_value c.args.query.now)) c.in_ok-asked.asked c.in_ok-body.body _ (search rules)
    (c.in_ok-body.ensures.text (batch_samples c.args.batch.now.rows) stands pin.1)
    (c.in_ok-body.ensures.code (batch_samples c.args.batch.now.rows) stands pin.1)
    (search rules)
