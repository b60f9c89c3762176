use Rattle.std.proofs.Common.{◌≡◌, drop, take}
use Rattle.pf_front.proofs.parts.next_parts.Given as goal

abbrev pub invariant-loop : goal.invariant-loop
invariant-loop l = record {
  parts : l.parts.items ≡ take l.counter l.initial.left.items;
  left : l.left.items ≡ drop l.counter l.initial.left.items;
}
