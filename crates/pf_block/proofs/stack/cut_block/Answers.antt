use Rattle.std.proofs.Common.{sym, ◌∙◌, arith, w64}
use Rattle.std.proofs.lemmas.Int.{ints, to_z-of_z}
use Rattle.std.specs.Arc.{arc_value}
use Rattle.pf_block.proofs.Layering.{free_cut}
use Rattle.pf_block.proofs.stack.cut_block.Goals as goal

pub returns-then-is_free_of : goal.returns-then-is_free_of
returns-then-is_free_of c =
    c.in_ok-try_clone.ensures
    ∙ sym (free_cut c.args.series.now c.args.from c.args.to _ _ (arc_value c.args.block.now) c.deref.result.now c.deref.ensures (omega (arith, ints)) (to_z-of_z w64 c.args.to c.ranges.to) (c.is_free_of.ensures c.if-is_free_of.true))
