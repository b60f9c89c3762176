use Rattle.std.proofs.Common.{◌≡◌, ℕ, ◌<◌, length, vec_len, get_or}
use Rattle.pf_block.proofs.ranked.places.Given as goal

abbrev pub invariant-loop-place : goal.invariant-loop-place
invariant-loop-place l = record {
  count : vec_len l.places ≡ length l.ids;
  within : (k : ℕ) → k < l.place → get_or l.places.items (get_or l.ids k 0) 0 < length l.ids;
  placed : (k : ℕ) → k < l.place → get_or l.ids (get_or l.places.items (get_or l.ids k 0) 0) 0 ≡ get_or l.ids k 0;
}
