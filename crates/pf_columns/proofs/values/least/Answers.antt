use Rattle.std.proofs.Common.{rules, ◌∷◌, ◌+◌, drop, sym, ap, ◌∙◌}
use Rattle.std.proofs.lemmas.List.{drop_more}
use Rattle.pf_model.specs.Micros.{least}
use Rattle.pf_columns.proofs.Bounds.{least_next, least_of_none}
use Rattle.pf_columns.proofs.Bounds.{nothing_is}
use Rattle.pf_columns.proofs.values.least.Goals as goal

-- one value more
pub loop-value-preserved : goal.loop-value-preserved
loop-value-preserved c =
    let rest = c.in-Some.rest.now in
    let i = c.loop-value.value-index in
    ap (λ z. least (z ∷ drop (i + 1) rest)) c.less-found.ensures
    ∙ least_next c.loop-value.found c.value-item.result (drop (i + 1) rest)
    ∙ ap (λ vs. least (c.loop-value.found ∷ vs)) (ap (λ z. z ∷ drop (i + 1) rest) c.value-item.is ∙ sym (drop_more rest i c.value-item.result (search rules)))
    ∙ c.loop-value.invariant

-- of no values
pub returns-in_default : goal.returns-in_default
returns-in_default c = c.new.ensures ∙ nothing_is ∙ sym (least_of_none c.args.values.now c.in_default.ensures.cases)
