use Rattle.std.proofs.Common.{◌≡◌, ℕ, List, ◌++◌, take}
use Rattle.pf_block.specs.Indexes.{listed}
use Rattle.pf_block.proofs.PostingLists.{hits}
use Rattle.pf_block.proofs.index.note_all.Given as goal

abbrev pub invariant-loop-i : goal.invariant-loop-i
invariant-loop-i l = (q r : List ℕ) → listed l.names q r ≡ listed l.initial.names q r ++ hits l.id q r (take l.i l.labels)
