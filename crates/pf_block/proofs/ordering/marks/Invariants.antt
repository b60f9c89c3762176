use Rattle.std.proofs.Common.{◌≡◌, ℕ, ◌+◌, ◌<◌, false, vec_len, take, get_or, nat_eq}
use Rattle.std.specs.List.{list_any}
use Rattle.pf_block.proofs.ordering.marks.Given as goal

abbrev pub invariant-loop-id : goal.invariant-loop-id
invariant-loop-id l = record {
  count : vec_len l.marks ≡ l.count;
  marked : (k : ℕ) → k < l.count → get_or l.marks.items k false ≡ list_any (nat_eq (l.first + k)) (take l.id-index l.ids);
}
