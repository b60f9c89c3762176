use Rattle.std.proofs.Common.{rules}
use Rattle.pf_model.specs.Trees.{tree_of}
use Rattle.pf_core.proofs.Offering.{stays_by}
use Rattle.pf_core.proofs.keep.keep_of.Goals as goal

pub returns-clause-kept : goal.returns-clause-kept
returns-clause-kept c =
    stays_by c.args.interval c.args.query.now c.deref-asked.result.now c.in_ok-key.key c.asker_of-asker.result (tree_of c.tree_in-expr.result.now) c.args.cells.now
    c.args.results.now c.keep_all.new.self (search rules) (search rules) (search rules) (search rules) (search rules) (search rules) c.keep_all.ensures.kept
