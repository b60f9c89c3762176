use Rattle.std.proofs.Common.{◌≡◌, ℕ, ◌<◌, cond, length, get_or, Some, None, nat_eq}
use Rattle.std.specs.List.{list_any}
use Rattle.pf_index.proofs.sieving.note.Given as goal

abbrev pub invariant-loop-id : goal.invariant-loop-id
invariant-loop-id l = record {
  goes : goal.iterator-loop-id.can_next l.id-iterator × goal.iterator-loop-id.is_finite l.id-iterator;
  count : length l.known.items ≡ length l.initial.known.items;
  noted : (k : ℕ) → k < length l.initial.known.items
      → cond (list_any (nat_eq k) l.id-iterator) (Some l.verdict) (get_or l.known.items k None) ≡ cond (list_any (nat_eq k) l.fn.ids) (Some l.verdict) (get_or l.initial.known.items k None);
}
