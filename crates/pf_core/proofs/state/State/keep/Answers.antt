use Rattle.pf_core.proofs.Offering.{keeps_whole}
use Rattle.pf_core.specs.States.{core_of}
use Rattle.pf_core.proofs.state.State.keep.Goals as goal

pub returns-clause-kept : goal.returns-clause-kept
returns-clause-kept c =
    keeps_whole c.args.self.now c.keep_cells-kept.new.self (core_of c.offer_covered.new.self) c.args.query c.args.cells.now c.keep_cells-kept.result c.requires.keepable
    c.keep_cells-kept.ensures.same c.keep_cells-kept.ensures.keeps c.offer_covered.ensures.offered
