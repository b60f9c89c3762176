use Rattle.std.proofs.Common.{ap, ◌∙◌}
use Rattle.std.specs.Option.{option_copied}
use Rattle.pf_model.specs.Evaluation.{expansion_by}
use Rattle.pf_model.specs.Lists.{at}
use Rattle.pf_math.specs.Relabelling.{labels_by}
use Rattle.pf_eval.proofs.InstantSteps.{relabelled_step}
use Rattle.pf_eval.proofs.instant.relabelled.Goals as goal

pub returns-clause-value : goal.returns-clause-value
returns-clause-value c =
    let f = c.args.f in
    let p = option_copied c.pattern_of.result in
    λ absent t k h. relabelled_step f absent t c.args.args k c.in_ok-found.found c.in_ok-relabelling.relabelling p c.in_ok-columns.columns.items
    c.requires.function (c.in_ok-found.ensures.steps k h) (c.in_ok-columns.ensures k)
    (λ ls. c.in_ok-relabelling.ensures.labels ls ∙ ap (λ ts. labels_by f (expansion_by p) ts ls) c.deref.ensures.value)
    (λ e. c.pattern_of.ensures e ∙ ap (λ ts. at ts 3) c.deref-2.ensures.value)
