use Rattle.std.proofs.Common.{arith}
use Rattle.std.proofs.Common.{◌≡◌, ap, ◌∙◌, map, take}
use Rattle.std.proofs.lemmas.Grind.{common_steps}
use Rattle.std.proofs.lemmas.List.{take_all}
use Rattle.pf_math.proofs.functions.relabelled_elements.Goals as goal
use Rattle.pf_math.specs.Relabelling.{relabels}

pub returns : goal.returns
returns c =
    let all : take c.loop-element.element-index c.args.elements.now ≡ c.args.elements.now = take_all c.loop-element.element-index c.args.elements.now c.loop-element-test.false in
    c.loop-element.invariant.1 ∙ ap (map (λ e. record { labels = relabels c.args.relabelling e.labels; value = e.value })) all

pub loop-element-preserved : goal.loop-element-preserved
loop-element-preserved c = grind (arith, common_steps)
