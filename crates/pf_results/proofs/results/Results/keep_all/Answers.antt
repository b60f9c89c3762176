use Rattle.std.proofs.Common.{rules, ◌≤◌, ◌+◌, arith, subst, sym}
use Rattle.lru.specs.LruCache.{LruCache}
use Rattle.pf_extent.specs.Steps.{Extents}
use Rattle.pf_extent.specs.declared.key.Key.{Key}
use Rattle.pf_model.specs.Trees.{tree_of}
use Rattle.pf_results.specs.Truth.{AreTrue}
use Rattle.pf_results.proofs.Pieced.{fits, kept_one}
use Rattle.pf_results.proofs.results.Results.keep_all.Goals as goal

pub returns-in_err-steps-clause-kept : goal.returns-in_err-steps-clause-kept
returns-in_err-steps-clause-kept c = λ log_rules logs h w text e.
    subst (λ (d : LruCache Key Extents). AreTrue log_rules c.args.interval logs d.entries) (sym c.in_err-steps.ensures.err)
    (c.loop-done.invariant.kept.true_still log_rules logs h w text e)

pub overflow_add-steps : goal.overflow_add-steps
overflow_add-steps c =
    let within : c.loop-done.steps + c.in_ok-steps.field-0 ≤ 11001 =
    fits c.args.self.now c.args.key.now (tree_of c.args.expr.now) c.args.asker.now c.args.interval c.args.cells.now c.loop-done.self c.keep.new.self
    c.loop-done.steps c.in_ok-steps.field-0 c.loop-done.done-index c.done-item.result c.loop-done.invariant.kept c.loop-done-test.true c.done-item.is
    c.requires.few c.in_ok-steps.ensures.few in
    omega (arith, within)

pub loop-done-preserved : goal.loop-done-preserved
loop-done-preserved c =
    let same = c.loop-done.invariant.key in record {
      key = record { tenant = same.tenant; text = same.text; step = same.step };
      kept = kept_one c.args.self.now c.args.key.now (tree_of c.args.expr.now) c.args.asker.now c.args.interval c.args.cells.now c.loop-done.self c.keep.new.self
          c.loop-done.steps c.in_ok-steps.field-0 c.loop-done.done-index c.done-item.result c.loop-done.invariant.kept c.loop-done-test.true c.done-item.is _
          (c.loop-done.done-index + 1) (search rules) (omega arith) c.in_ok-steps.ensures.ok c.in_ok-steps.ensures.count c.in_ok-steps.ensures.few
          c.in_ok-steps.ensures.kept;
    }
