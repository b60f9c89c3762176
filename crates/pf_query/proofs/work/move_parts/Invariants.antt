use Rattle.std.proofs.Common.{◌≡◌, ◌+◌, ◌++◌, length, map, take, vec_capacity}
use Rattle.pf_query.specs.declared.slot.Slot.TheVariants.{Filled}
use Rattle.pf_query.proofs.Moving.{handed_upto}
use Rattle.pf_query.proofs.work.move_parts.Given as goal

abbrev pub invariant-loop-i : goal.invariant-loop-i
invariant-loop-i l = record {
  slots : l.slots.items ≡ handed_upto l.i l.initial.slots.items;
  parts : map (λ p. Filled p) l.parts.items ≡ map (λ p. Filled p) l.initial.parts.items ++ take l.i l.initial.slots.items;
  many : length l.parts.items ≡ length l.initial.parts.items + l.i;
  room : vec_capacity l.parts ≡ vec_capacity l.initial.parts;
}
