use Rattle.std.proofs.Common.{map, arith, w64, rules}
use Rattle.std.proofs.lemmas.Int.{to_z-of_z}
use Rattle.std.specs.Arc.{arc_value}
use Rattle.pf_block.proofs.Walks.{clear_by_last, clear_by_test}
use Rattle.pf_block.proofs.stack.clear_with.Goals as goal

pub returns-then-follows-clause-clear : goal.returns-then-follows-clause-clear
returns-then-follows-clause-clear c =
    clear_by_last (map arc_value c.args.blocks.now) c.args.block.now c.args.place c.args.clear c.rows-rows.ensures.ascends c.requires.inside (c.follows.ensures c.if-follows.true) c.requires.clear

pub returns-clause-clear : goal.returns-clause-clear
returns-clause-clear c =
    clear_by_test (map arc_value c.args.blocks.now) c.args.block.now c.args.place c.entry_near-run.result.1 c.args.clear c.clear_below.result c.min.result _ c.requires.inside (c.entry_near-run.ensures c.entry_near-run.result.1)
    (omega arith) (to_z-of_z w64 c.entry_near-run.result.1.1.time (search rules)) c.requires.clear c.clear_below.ensures.clear
