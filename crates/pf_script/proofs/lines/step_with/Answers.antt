use Rattle.pf_script.proofs.Asked.{idle_each}
use Rattle.pf_script.proofs.lines.step_with.Goals as goal

pub returns-then-eq-clause-issued : goal.returns-then-eq-clause-issued
returns-then-eq-clause-issued c = idle_each c.plan_of.result _ c.plan_of.ensures.idle

pub returns-then-eq-3-clause-issued : goal.returns-then-eq-3-clause-issued
returns-then-eq-3-clause-issued c = idle_each c.take_of.result _ c.take_of.ensures.idle

pub returns-then-eq-4-clause-issued : goal.returns-then-eq-4-clause-issued
returns-then-eq-4-clause-issued c = idle_each c.done_of.result _ c.done_of.ensures.idle
