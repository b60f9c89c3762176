use Rattle.std.proofs.Common.{◌≡◌, ◌<◌, length, sym, ap, ◌∙◌, subst, arith}
use Rattle.std.proofs.lemmas.Grind.{common_steps}
use Rattle.std.specs.List.{All}
use Rattle.pf_block.specs.Indexes.{AreRanked}
use Rattle.pf_block.specs.LabelOrders.{ids_by_label}
use Rattle.pf_block.proofs.LabelOrdering.{ids_within, length_ids, ranks_placed}
use Rattle.pf_block.proofs.ranked.Ranked.of.Goals as goal

pub places-requires-clause-few : goal.places-requires-clause-few
places-requires-clause-few c =
    let n = ap length (c.deref.ensures.value ∙ c.in_ok-by_label.ensures) ∙ length_ids c.args.index in
    omega (arith, n, c.count-count.ensures.few)

pub places-requires-clause-within : goal.places-requires-clause-within
places-requires-clause-within c =
    let ids = c.deref.result.now in
    let e : ids ≡ ids_by_label c.args.index = c.deref.ensures.value ∙ c.in_ok-by_label.ensures in
    let n : length c.args.index ≡ length ids = sym (ap length e ∙ length_ids c.args.index) in
    subst (λ m. All (λ id. id < m) ids) n (subst (All (λ id. id < length c.args.index)) (sym e) (ids_within c.args.index))

pub invariant_of-result : goal.invariant_of-result
invariant_of-result c =
    let r = ranks_placed c.args.index c.deref.result.now c.in_ok-ranks.ranks.items c.in_ok-hashes.hashes.items (c.deref.ensures.value ∙ c.in_ok-by_label.ensures) c.in_ok-ranks.ensures.count c.in_ok-ranks.ensures.within c.in_ok-ranks.ensures.placed c.in_ok-hashes.ensures in
    subst (λ ids. AreRanked c.args.index ids c.in_ok-ranks.ranks.items c.in_ok-hashes.hashes.items) c.deref.ensures.value r

pub returns : goal.returns
returns c = grind (arith, common_steps)
