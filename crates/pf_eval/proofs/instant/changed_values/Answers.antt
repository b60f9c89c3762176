use Rattle.std.proofs.Common.{◌≡◌, ◌<◌, length, ◌∙◌, arith}
use Rattle.std.proofs.Math.ListN.{length-set}
use Rattle.pf_columns.specs.Columns.{value_in}
use Rattle.pf_math.specs.EachValue.{changed}
use Rattle.pf_eval.specs.Calls.{change_at}
use Rattle.pf_eval.specs.Nodes.{onto}
use Rattle.pf_eval.proofs.InstantSteps.{read_in, written_done, written_left}
use Rattle.pf_eval.proofs.instant.changed_values.Goals as goal

pub loop-i-preserved : goal.loop-i-preserved
loop-i-preserved c =
    let l = c.loop-i in
    let now = l.values.items in
    let old = c.args.values.items in
    let inside : l.i < length now = omega (arith, l.invariant.many) in
    let was : c.index-value.result.now ≡ value_in old l.i =
    read_in now l.i c.index-value.result.now inside c.index-value.ensures ∙ l.invariant.left l.i (omega arith) in
    let wrote : c.changed.result ≡ onto (value_in old l.i) (changed (change_at c.args.changes.now l.i)) =
    c.changed.ensures ∙ λ j. onto (was j) (changed (c.at.ensures j)) in
    record {
      many = length-set now l.i c.changed.result ∙ l.invariant.many;
      done = written_done now (λ k. onto (value_in old k) (changed (change_at c.args.changes.now k))) l.i c.changed.result inside wrote l.invariant.done;
      left = written_left now old l.i c.changed.result l.invariant.left;
    }
