use Rattle.std.proofs.Common.{map, rules, w64}
use Rattle.std.proofs.lemmas.Int.{to_z-of_z}
use Rattle.std.specs.Arc.{arc_value}
use Rattle.pf_block.proofs.Reading.{stretch_lent}
use Rattle.pf_block.proofs.window.first_of.Goals as goal

pub returns-in-Some-clause-left : goal.returns-in-Some-clause-left
returns-in-Some-clause-left c =
    stretch_lent c.args.joined c.args.id (map arc_value c.args.more.now) c.next_stretch-rest.result.now c.in-Some.last.now _ _ _ c.args.after c.args.upto c.if-joined.false c.next_stretch-rest.ensures.left c.in-Some.ensures.value
    (to_z-of_z w64 c.in-Some.last.now.time (search rules)) (to_z-of_z w64 c.args.after c.ranges.after) (to_z-of_z w64 c.args.upto c.ranges.upto)
