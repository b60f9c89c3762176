use Rattle.std.proofs.Common.{rules}
use Rattle.pf_model.specs.Trees.{tree_of}
use Rattle.std.proofs.lemmas.Result.{err_from_is_err_and}
use Rattle.pf_types.proofs.BindSteps.{fault_step, matchers_step, meant_step, node_fate, none_step, one_more, patterns_step}
use Rattle.pf_types.proofs.bound.parts_of.Goals as goal

pub returns-in_err-push_parts-clause-fate : goal.returns-in_err-push_parts-clause-fate
returns-in_err-push_parts-clause-fate c refused agrees tree all =
    let p = err_from_is_err_and c.from_residual.result c.from_residual.ensures.1 in
    rw (p.1, p.2)
    (node_fate (λ e. tree_of e.now) refused c.args.nodes.now c.loop-i.i c.loop-i.i _ _ tree c.loop-i-test.true c.index-nodes-i.is (search rules)
    (c.loop-i.invariant.fate refused (c.in_err-push_parts.ensures.still refused agrees)) (c.in_err-push_parts.ensures.fate refused agrees) all)

pub loop-i-preserved : goal.loop-i-preserved
loop-i-preserved c =
    let more = one_more (λ e. tree_of e.now) c.args.nodes.now c.loop-i.i _ c.loop-i-test.true c.index-nodes-i.is in
    let old = c.loop-i.invariant in
    let made = c.in_ok-push_parts.ensures in
    record {
      selectors = matchers_step _ _ _ _ _ old.selectors made.selectors more;
      patterns = patterns_step _ _ _ _ _ old.patterns made.patterns more;
      meant = meant_step _ _ _ old.meant made.meant more;
      select = none_step _ _ _ old.select made.selects more;
      fate = λ refused agrees.
          let node = made.fate refused agrees in
          fault_step (λ e. tree_of e.now) refused c.args.nodes.now c.loop-i.i _ _ c.loop-i-test.true c.index-nodes-i.is (old.fate refused (made.still refused agrees)) node.0 node.1;
      still = λ refused agrees. old.still refused (made.still refused agrees);
    }
