use Rattle.std.proofs.Common.{◌≡◌, ◌∙◌, arith, rules, to_z, of_z, w64}
use Rattle.std.proofs.lemmas.Int.{ints}
use Rattle.pf_model.specs.Evaluation.{multiples}
use Rattle.pf_selectors.specs.Times.{time_at}
use Rattle.pf_selectors.proofs.StepMultiples.{all_pushed, between_all, push_more}
use Rattle.pf_selectors.proofs.multiples.push_between.Goals as goal

pub loop-i-preserved : goal.loop-i-preserved
loop-i-preserved c =
    push_more (time_at c.in-Some.run') c.loop-i.i _ c.args.list.now.items c.loop-i.list.items c.push.new.self.items c.in_ok-push.ensures.items c.loop-i.invariant
    (omega (arith, ints, c.at.ensures.value, c.at.ensures.within))

pub returns : goal.returns
returns c =
    let a : to_z w64 (of_z w64 c.args.from) ≡ c.args.from = search rules in
    let b : to_z w64 (of_z w64 c.args.to) ≡ c.args.to = search rules in
    all_pushed (time_at c.in-Some.run') c.loop-i.i c.in-Some.run'.len c.args.list.now.items c.loop-i.list.items _ c.loop-i.invariant (omega (arith, c.loop-i-test.false))
    (between_all _ _ c.args.step c.in-Some.run' c.in-Some.ensures.between ∙ (λ i. multiples c.args.step (a i) (b i)))
