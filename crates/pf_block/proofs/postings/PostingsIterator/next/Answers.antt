use Rattle.std.proofs.Common.{map, sym, subst}
use Rattle.std.specs.Arc.{arc_value}
use Rattle.pf_block.specs.IndexStacks.{ArePostings}
use Rattle.pf_block.proofs.Joining.{postings_tail}
use Rattle.pf_block.proofs.postings.PostingsIterator.next.Goals.{else-is_empty, then-is_empty}
use Rattle.pf_block.proofs.postings.PostingsIterator.next.Goals as goal

pub invariant_of-self-2 : goal.invariant_of-self-2
invariant_of-self-2 c =
    let s = c.if-is_empty.self-inside in
    let are : ArePostings s.rest.now s.first s.behind (map arc_value s.more.now) =
    elim c.if-is_empty.branch [
      | then-is_empty w ↦ rw (w.self-inside-is) w.first_of-first.ensures.are
      | else-is_empty w ↦ rw (w.self-inside-is) c.self.invariant
    ] in
    postings_tail c.in_ok-id.id.now s.rest.now c.in_ok-id.rest.now s.first s.behind (map arc_value s.more.now) c.in_ok-id.ensures.cases.0 are
