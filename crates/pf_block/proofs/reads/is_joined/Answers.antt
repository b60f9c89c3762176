use Rattle.std.proofs.Common.{map, arith}
use Rattle.std.specs.Arc.{arc_value}
use Rattle.pf_block.proofs.Reading.{front_all}
use Rattle.pf_block.proofs.Walks.{map_length}
use Rattle.pf_block.proofs.reads.is_joined.Goals as goal

pub returns-then-ordered-blocks : goal.returns-then-ordered-blocks
returns-then-ordered-blocks c = λ _.
    let e = map_length arc_value c.args.blocks.now in
    front_all c.args.id c.args.ordered (map arc_value c.args.blocks.now) (omega (arith, e)) c.requires.front
