use Rattle.std.proofs.Common.{◌≡◌, ◌++◌, ◌+◌, length, map}
use Rattle.std.specs.Arc.{arc_value}
use Rattle.pf_block.specs.IndexStacks.{ArePostings, joined}
use Rattle.pf_block.specs.SeriesIds.{ids_from}
use Rattle.pf_block.proofs.postings.first_of.Given as goal

abbrev pub invariant-loop-rest : goal.invariant-loop-rest
invariant-loop-rest l = record {
  left : map (λ id. l.first + id) l.rest ++ ids_from l.behind l.name l.value (joined (map arc_value l.more)) ≡ ids_from l.fn.behind l.name l.value (joined (map arc_value l.fn.more));
  are : ArePostings l.rest l.first l.behind (map arc_value l.more);
}

abbrev pub decreases-loop-rest : goal.decreases-loop-rest
decreases-loop-rest l = length l.more
