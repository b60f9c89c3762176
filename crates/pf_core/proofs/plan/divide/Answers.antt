use Rattle.std.proofs.Common.{rules}
use Rattle.pf_model.specs.Trees.{tree_of}
use Rattle.pf_core.proofs.Divided.{divides_range}
use Rattle.pf_core.proofs.plan.divide.Goals as goal

pub returns : goal.returns
returns c =
    divides_range c.args.results.now c.args.interval c.args.query.now c.deref-asked.result.now c.in_ok-found.found c.in_ok-key.key c.find_all.new.key
    c.asked.inside.grid c.asker_of-asker.result (tree_of c.tree_in-expr.result.now) (search rules) (search rules) (search rules) (search rules) (search rules)
    (search rules) (search rules) (search rules) (search rules) (search rules) (search rules)
    c.in_ok-found.ensures.key c.in_ok-found.ensures.woven c.in_ok-found.ensures.whole c.in_ok-found.ensures.cached c.in_ok-found.ensures.runs c.in_ok-found.ensures.all
    c.in_ok-found.ensures.values c.in_ok-found.ensures.few
