use Rattle.std.proofs.Common.{rules, ◌≡◌, ◌<◌, ◌≤◌, length, min, refl, ap, ◌∙◌, subst}
use Rattle.pf_shard.proofs.KnownValues.{added, added_within, adding_more}
use Rattle.pf_shard.proofs.grouped.add_values.Goals as goal

pub loop-i-preserved : goal.loop-i-preserved
loop-i-preserved c =
    let many = c.loop-i.invariant.many in
    let within : c.loop-i.i < length c.loop-i.known.items = search rules in
    let inside : c.loop-i.i < length c.args.values.now = search rules in
    adding_more _ _ _ _ _ c.index.result.now c.with_value.result c.index-values-i.result within inside c.index.ensures c.index-values-i.is c.with_value.ensures.value c.with_value.ensures.within refl
    c.loop-i.invariant

pub returns-clause-values : goal.returns-clause-values
returns-clause-values c =
    let many : c.len.result ≡ length c.args.known.now.items = search rules in
    added _ _ _ _ c.loop-i.invariant
    (subst (λ n. n ≤ c.loop-i.i) (c.min-count.ensures ∙ ap (λ m. min m (length c.args.values.now)) many) c.loop-i-test.false)

pub returns-clause-within : goal.returns-clause-within
returns-clause-within c = λ n w. added_within _ _ _ _ c.loop-i.invariant n w
