use Rattle.std.proofs.Common.{rules}
use Rattle.pf_block.proofs.Pairing.{rows_there}
use Rattle.pf_block.proofs.block.Block.rows.Goals as goal

pub returns-clause-rows : goal.returns-clause-rows
returns-clause-rows c = let r = rows_there c.self.inside.runs.items c.self.inside.samples.items c.self.invariant.0 c.args.self.now c.self.view_is in search (rules, r)
