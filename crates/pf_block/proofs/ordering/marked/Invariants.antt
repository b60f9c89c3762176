use Rattle.std.proofs.Common.{◌≡◌, ◌++◌, ◌+◌, false, drop, filter, get_or, map}
use Rattle.pf_block.proofs.ordering.marked.Given as goal

abbrev pub invariant-loop-id : goal.invariant-loop-id
invariant-loop-id l = l.found.items ++ map (λ id. l.first + id) (filter (λ id. get_or l.marks id false) (drop l.id-index l.by_label)) ≡ map (λ id. l.first + id) (filter (λ id. get_or l.marks id false) l.by_label)
