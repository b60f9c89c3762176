use Rattle.std.proofs.Common.{◌≡◌, ◌++◌, length, map}
use Rattle.std.specs.Vec.Iter.{into_iter_items, into_iter_len}
use Rattle.pf_shard.specs.Groups.{with_keys}
use Rattle.pf_shard.proofs.grouped.with_keys.Given as goal

abbrev pub invariant-loop-key : goal.invariant-loop-key
invariant-loop-key l = record {
  done : l.found.items ++ with_keys (into_iter_items l.key-iterator) (map (λ v. v.items) (into_iter_items l.rest)) ≡ with_keys l.fn.keys.items l.fn.known;
  left : into_iter_len l.key-iterator ≡ length (into_iter_items l.key-iterator);
  rest : into_iter_len l.rest ≡ length (into_iter_items l.rest);
  alike : length (into_iter_items l.rest) ≡ length (into_iter_items l.key-iterator);
}
