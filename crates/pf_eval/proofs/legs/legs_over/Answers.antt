use Rattle.std.proofs.Common.{rules, ℕ, List, map, Vec, Global, ap, subst, sym, ◌∙◌, arith}
use Rattle.std.proofs.lemmas.Grind.{common_steps}
use Rattle.std.specs.Arc.{arc_value}
use Rattle.pf_model.specs.Binding.{selectors_of}
use Rattle.pf_model.specs.Sharding.{legs_over}
use Rattle.pf_shard.specs.Bound.{IsBoundOver}
use Rattle.pf_shard.specs.Lawful.{IsLawful, ResolvedData, ResolvedLegs, legs_data}
use Rattle.pf_eval.proofs.ShardLists.{bound_by, lists_within}
use Rattle.pf_eval.proofs.legs.legs_over.Goals as goal

abbrev list : Vec ℕ Global → List ℕ
list v = v.items

pub all_by_shard-requires-clause-inside : goal.all_by_shard-requires-clause-inside
all_by_shard-requires-clause-inside c =
    let r = c.in_ok-bind.field-0 in
    lists_within list c.args.snap.now.labels (selectors_of r.query) c.deref-2.result.now
    (ap (map list) c.deref-2.ensures.value ∙ ap (λ (x : ResolvedData). x.series) c.behind-legs.view_is ∙ ap (λ (x : ResolvedData). x.series) c.deref.ensures
    ∙ ap (λ (l : ResolvedLegs). l.resolved.series) c.legs.view_is ∙ ap (λ (l : ResolvedLegs). l.resolved.series) c.in_ok-legs.ensures.legs
    ∙ ap (λ (x : ResolvedData). x.series) c.in_ok-resolved.ensures.ok ∙ c.in_ok-bind.ensures.bound.series)

pub returns-clause-bound : goal.returns-clause-bound
returns-clause-bound c =
    let r = arc_value c.in_ok-resolved.resolved in
    bound_by _ r (legs_over r.query c.args.shards) c.args.shards c.args.snap.now.labels (map list c.in_ok-series.series.items) (map list c.deref-2.result.now)
    (c.legs.view_is ∙ c.in_ok-legs.ensures.legs)
    (subst (λ (l : ResolvedLegs). IsLawful (legs_data l)) (sym c.legs.view_is) c.in_ok-legs.ensures.lawful)
    (λ e. search rules)
    (subst (λ (x : ResolvedData). IsBoundOver x c.args.snap.now.labels) (sym c.in_ok-resolved.ensures.ok) c.in_ok-bind.ensures.bound)
    (ap (map list) c.deref-2.ensures.value ∙ ap (λ (x : ResolvedData). x.series) c.behind-legs.view_is ∙ ap (λ (x : ResolvedData). x.series) c.deref.ensures
    ∙ ap (λ (l : ResolvedLegs). l.resolved.series) c.legs.view_is ∙ ap (λ (l : ResolvedLegs). l.resolved.series) c.in_ok-legs.ensures.legs)
    c.in_ok-series.ensures

pub returns-then-is_empty-clause-data : goal.returns-then-is_empty-clause-data
returns-then-is_empty-clause-data c = grind (arith, common_steps)

pub returns-then-is_empty-clause-lawful : goal.returns-then-is_empty-clause-lawful
returns-then-is_empty-clause-lawful c = grind (arith, common_steps)

pub returns-clause-data : goal.returns-clause-data
returns-clause-data c = grind (arith, common_steps)

pub returns-clause-lawful : goal.returns-clause-lawful
returns-clause-lawful c = grind (arith, common_steps)
