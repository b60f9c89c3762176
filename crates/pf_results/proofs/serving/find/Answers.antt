use Rattle.std.proofs.Common.{rules, ◌≡◌, arith, false}
use Rattle.pf_model.specs.Trees.{tree_of}
use Rattle.pf_results.specs.Runs.{time_of}
use Rattle.pf_results.specs.Serving.{is_served}
use Rattle.pf_results.proofs.Served.{found_part_at, found_run_at}
use Rattle.pf_results.proofs.Weaving.{weaves_all}
use Rattle.pf_results.proofs.serving.find.Goals as goal

pub loop-from-preserved-in-Continue-branch-3 : goal.loop-from-preserved-in-Continue-branch-3
loop-from-preserved-in-Continue-branch-3 c =
    found_part_at c.args.list.now (tree_of c.args.expr.now) c.args.asker.now c.args.run c.args.found.cached.items c.args.found.runs.items c.loop-from.cached.items
    c.push.new.self.items c.loop-from.runs.items c.loop-from.from c.len-from.result c.in_ok-done.field-0 c.in-Some.done _ c.loop-from.invariant
    (search rules) c.requires.step c.in_ok-done.ensures c.in-Some.is c.in_ok-push.ensures.items c.len-from.ensures.value

pub loop-from-preserved : goal.loop-from-preserved
loop-from-preserved c =
    let none : is_served c.args.list.now (tree_of c.args.expr.now) c.args.asker.now (time_of c.args.run c.loop-from.from) ≡ false = search rules in
    let n = c.len.ensures.value in
    let t = c.loop-from-test.true in
    found_run_at c.args.list.now (tree_of c.args.expr.now) c.args.asker.now c.args.run c.args.found.cached.items c.args.found.runs.items c.loop-from.cached.items
    c.loop-from.runs.items c.push-in_default.new.self.items c.loop-from.from c.count_missing-count.result c.part.result c.loop-from.invariant (search rules) c.requires.step
    (omega (arith, n, t)) none c.count_missing-count.ensures.within c.part.ensures c.count_missing-count.ensures.missing c.count_missing-count.ensures.stops
    c.in_ok-push-2.ensures.items

pub returns-clause-woven : goal.returns-clause-woven
returns-clause-woven c =
    let n = c.len.ensures.value in
    let t = c.loop-from-test.false in
    weaves_all c.args.run c.args.found.cached.items c.args.found.runs.items c.loop-from.cached.items c.loop-from.runs.items c.loop-from.from
    c.loop-from.invariant.woven (omega (arith, n, t))
