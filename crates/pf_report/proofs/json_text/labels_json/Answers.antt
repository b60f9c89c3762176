use Rattle.std.proofs.Common.{◌∙◌, ◌<◌, ◌≤◌, length, arith}
use Rattle.pf_report.proofs.LabelTokens.{pair_step, labels_written}
use Rattle.pf_report.proofs.json_text.labels_json.Goals as goal

pub loop-i-preserved : goal.loop-i-preserved
loop-i-preserved c =
    let h : c.loop-i.i < length c.args.labels.now = omega (arith, c.count-i-end.ensures.value) in
    record {
      alone = c.in_ok-string.ensures.room.0 ∙ c.in_ok-key.ensures.room.0 ∙ c.loop-i.invariant.alone;
      tokens = pair_step c.args.labels.now c.loop-i.i _ _ _ _ _ h c.name.ensures c.value.ensures c.loop-i.invariant.tokens c.in_ok-key.ensures.ok c.in_ok-string.ensures.ok;
    }

pub returns : goal.returns
returns c =
    let h : length c.args.labels.now ≤ c.loop-i.i = omega (arith, c.count-i-end.ensures.value) in
    labels_written c.args.labels.now c.loop-i.i _ _ _ _ _ h c.loop-i.invariant.alone c.in_ok-end_object.ensures.room.0 c.loop-i.invariant.tokens c.in_ok-end_object.ensures.ok c.into_inner.ensures.items
