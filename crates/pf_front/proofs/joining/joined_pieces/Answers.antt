-- The pieces of a grid, one after another.
use Rattle.std.proofs.Common.{rules}
use Rattle.pf_base.specs.GridLists.{IsGrid}
use Rattle.pf_front.proofs.Joined.{begun_all, begun_more, begun_none}
use Rattle.pf_front.proofs.joining.joined_pieces.Goals as goal

pub loop-noted-init : goal.loop-noted-init
loop-noted-init c =
    let lawful : IsGrid c.args.grid = search rules in
    begun_none c.args.interval c.args.grid c.args.left.cached.items c.args.left.evaluated.items c.pieces-pieces.result c.new-cells.result.items c.new-noted.result.items
    c.pieces-pieces.ensures.pieces c.new-cells.ensures.items c.new-noted.ensures.items lawful c.pieces-pieces.ensures.all c.pieces-pieces.ensures.own c.requires.woven
    c.requires.whole

pub loop-noted-preserved : goal.loop-noted-preserved
loop-noted-preserved c =
    begun_more c.args.interval c.args.grid c.args.left.cached.items c.args.left.evaluated.items c.loop-noted.pieces c.loop-noted.left.cached.items
    c.loop-noted.left.evaluated.items c.loop-noted.cells.items c.loop-noted.noted.items c.loop-noted.invariant c.in-Some.piece c.next_piece.new.pieces
    c.next_piece.new.left.cached.items c.next_piece.new.left.evaluated.items (rw c.in-Some.is at c.in_ok-piece.ensures) c.push.new.self.items c.note.new.noted.items
    c.in_ok-push.ensures.items c.in_ok-note.ensures

pub returns : goal.returns
returns c =
    begun_all c.args.interval c.args.grid c.args.left.cached.items c.args.left.evaluated.items c.loop-noted.pieces c.loop-noted.left.cached.items
    c.loop-noted.left.evaluated.items c.loop-noted.cells.items c.loop-noted.noted.items (rw c.in_default.is at c.in_ok-piece.ensures) c.loop-noted.invariant
