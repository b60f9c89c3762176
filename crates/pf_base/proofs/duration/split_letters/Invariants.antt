use Rattle.std.proofs.Common.{◌≡◌, true, take}
use Rattle.pf_base.proofs.Letters.{all_letters}
use Rattle.pf_base.proofs.duration.split_letters.Given as goal

abbrev pub invariant-loop-i : goal.invariant-loop-i
invariant-loop-i l = all_letters (take l.i l.bytes) ≡ true
