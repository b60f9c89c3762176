use Rattle.std.proofs.Common.{◌<◌, ◌^◌, length, ap, sym, subst, ◌∙◌, arith}
use Rattle.std.proofs.lemmas.Grind.{common_steps}
use Rattle.pf_base.proofs.LabelSteps.{chosen_step, left_step}
use Rattle.pf_base.proofs.labels.changes.with_chosen.Goals as goal
use Rattle.pf_base.proofs.labels.changes.with_chosen.Goals.{then-chooses+in_ok-found, else-chooses}

pub loop-i-preserved : goal.loop-i-preserved
loop-i-preserved g c = elim c.if-chooses.branch [
  | then-chooses+in_ok-found w ↦ record {
    pairs =
        chosen_step (λ name. g.C.Choice.is_chosen c.args.choice.now name) c.args.pairs.now c.loop-i.found c.if-chooses.found _ c.loop-i.i c.args.end w.name-then-chooses.result.now w.value.result.now
        c.loop-i-test.true c.requires.bound w.name-then-chooses.ensures w.value.ensures
        (ap (λ name. g.C.Choice.is_chosen c.args.choice.now name) (sym c.name.ensures) ∙ sym c.chooses.ensures ∙ w.if-chooses.true)
        (w.found-is ∙ w.in_ok-found.ensures.pairs) c.loop-i.invariant.pairs;
    few = subst (λ f. length f < 2 ^ 32) (sym w.found-is) w.in_ok-found.ensures.few;
  }
  | else-chooses w ↦ record {
    pairs =
        left_step (λ name. g.C.Choice.is_chosen c.args.choice.now name) c.args.pairs.now c.loop-i.found c.if-chooses.found _ c.loop-i.i c.args.end
        c.loop-i-test.true c.requires.bound
        (ap (λ name. g.C.Choice.is_chosen c.args.choice.now name) (sym c.name.ensures) ∙ sym c.chooses.ensures ∙ w.if-chooses.false)
        w.found-is c.loop-i.invariant.pairs;
    few = subst (λ f. length f < 2 ^ 32) (sym w.found-is) c.loop-i.invariant.few;
  }
]

pub returns-clause-pairs : goal.returns-clause-pairs
returns-clause-pairs c = grind (arith, common_steps)

pub returns-clause-few : goal.returns-clause-few
returns-clause-few c = grind (arith, common_steps)
