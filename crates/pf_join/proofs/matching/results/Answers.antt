use Rattle.std.proofs.Common.{◌++◌, map, ap, ◌∙◌}
use Rattle.pf_model.specs.Lists.{joined}
use Rattle.pf_join.specs.KeyedElements.{keyed_results}
use Rattle.pf_join.specs.Results.{result_of}
use Rattle.pf_math.proofs.Joining.{joined_next}
use Rattle.pf_join.proofs.matching.results.Goals as goal

pub loop-left-preserved : goal.loop-left-preserved
loop-left-preserved c =
    joined_next (keyed_results c.args.op c.args.matching.now c.args.rights.now) c.loop-left.found.items c.push_results.new.found.items
    (joined (keyed_results c.args.op c.args.matching.now c.args.rights.now) c.args.lefts.now) c.args.lefts.now c.loop-left.left-index
    c.left-item.result c.loop-left-test.true c.left-item.is
    (c.in_ok-push_results.ensures ∙ ap (λ xs. c.loop-left.found.items ++ map (λ r. result_of c.args.op c.args.matching.now c.left-item.result.element r.element) xs) c.with_key-same.ensures)
    c.loop-left.invariant
