use Rattle.std.proofs.Common.{arith}
use Rattle.std.proofs.lemmas.Grind.{common_steps}
use Rattle.pf_io.proofs.doors.MemDoorsDoors.next.Goals as goal

pub returns-clause-answers : goal.returns-clause-answers
returns-clause-answers c = grind (arith, common_steps)

pub returns-clause-order : goal.returns-clause-order
returns-clause-order c = grind (arith, common_steps)

pub returns-clause-handed : goal.returns-clause-handed
returns-clause-handed c = grind (arith, common_steps)

pub returns-clause-ended : goal.returns-clause-ended
returns-clause-ended c = grind (arith, common_steps)

pub returns-clause-none_given : goal.returns-clause-none_given
returns-clause-none_given c = grind (arith, common_steps)

pub returns-clause-none_ended : goal.returns-clause-none_ended
returns-clause-none_ended c = grind (arith, common_steps)

pub returns-clause-given_rises : goal.returns-clause-given_rises
returns-clause-given_rises c = grind (arith, common_steps)

pub returns-clause-nones_rise : goal.returns-clause-nones_rise
returns-clause-nones_rise c = grind (arith, common_steps)
