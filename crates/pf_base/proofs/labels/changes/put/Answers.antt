use Rattle.std.proofs.Common.{◌≡◌, ◌++◌, ◌∷◌, [], ap, ◌∙◌, arith}
use Rattle.std.proofs.lemmas.Grind.{common_steps}
use Rattle.std.specs.Prelude.{slice_range}
use Rattle.std.proofs.lemmas.Result.{IfOk-weaker}
use Rattle.pf_base.specs.LabelChanges.{others}
use Rattle.pf_base.specs.LabelOrder.{pair_cmp}
use Rattle.pf_base.specs.Sorting.{ins}
use Rattle.pf_base.proofs.Put.{put_is}
use Rattle.pf_base.proofs.labels.changes.put.Goals as goal

pub returns-clause-pairs : goal.returns-clause-pairs
returns-clause-pairs c =
    let front = ap (λ l. (l ++ others c.args.name.now (slice_range c.args.pairs.now 0 c.place_of-place.result)) ++ (c.args.name.now, c.args.value.now) ∷ []) c.in_ok-empty.ensures in
    let joined = c.in_ok-joined.ensures.pairs ∙ ap (λ l. l ++ (c.args.name.now, c.args.value.now) ∷ []) c.in_ok-below.ensures.pairs ∙ front in
    IfOk-weaker c.with_chosen-2.result
    (λ p. p ≡ c.in_ok-joined.joined ++ others c.args.name.now (slice_range c.args.pairs.now c.place_of-place.result c.count.result))
    (λ p. p ≡ ins pair_cmp (c.args.name.now, c.args.value.now) (others c.args.name.now c.args.pairs.now))
    (λ p h. h ∙ ap (λ l. l ++ others c.args.name.now (slice_range c.args.pairs.now c.place_of-place.result c.count.result)) joined
    ∙ put_is c.args.name.now c.args.value.now c.args.pairs.now c.place_of-place.result c.count.result c.place_of-place.ensures.place c.count.ensures.value)
    c.with_chosen-2.ensures.pairs

pub returns-clause-few : goal.returns-clause-few
returns-clause-few c = grind (arith, common_steps)
