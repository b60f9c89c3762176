use Rattle.std.proofs.Common.{◌≡◌, ◌+◌, ◌∷◌, [], length, map, sym, ap, ◌∙◌, arith, rules}
use Rattle.std.specs.Arc.{arc_value}
use Rattle.std.proofs.lemmas.Bool.{eqb-true}
use Rattle.std.proofs.lemmas.List.{length-append, nil_from_length}
use Rattle.pf_block.specs.IndexStacks.{joined}
use Rattle.pf_block.proofs.Joining.{ids_left, ids_walked}
use Rattle.pf_block.proofs.postings.first_of.Goals as goal

pub overflow_add-behind : goal.overflow_add-behind
overflow_add-behind c =
    let more = map arc_value c.loop-rest.more.now in
    let others = map arc_value c.in-Some.others.now in
    let layer = c.index.result.now in
    let m : more ≡ layer ∷ others = ap (map arc_value) c.in-Some.ensures.cases.0 ∙ ap (λ x. x ∷ others) (sym (c.index.ensures ∙ c.deref.ensures)) in
    let same : c.count-behind.result ≡ length layer = c.count-behind.ensures.value ∙ ap length (c.index-in-loop-rest.ensures ∙ c.deref-in-loop-rest.ensures ∙ sym (c.index.ensures ∙ c.deref.ensures)) in
    let s : length (joined more) ≡ length layer + length (joined others) = ap (λ x. length (joined x)) m ∙ length-append layer (joined others) in
    omega (arith, s, same, c.loop-rest.invariant.are.few)

pub loop-rest-preserved : goal.loop-rest-preserved
loop-rest-preserved c =
    let more = map arc_value c.loop-rest.more.now in
    let others = map arc_value c.in-Some.others.now in
    let layer = c.index.result.now in
    let m : more ≡ layer ∷ others = ap (map arc_value) c.in-Some.ensures.cases.0 ∙ ap (λ x. x ∷ others) (sym (c.index.ensures ∙ c.deref.ensures)) in
    let same : c.count-behind.result ≡ length layer = c.count-behind.ensures.value ∙ ap length (c.index-in-loop-rest.ensures ∙ c.deref-in-loop-rest.ensures ∙ sym (c.index.ensures ∙ c.deref.ensures)) in
    let next : c.loop-rest.behind + c.count-behind.result ≡ c.loop-rest.behind + length layer = ap (λ n. c.loop-rest.behind + n) same in
    let none = nil_from_length c.loop-rest.rest.now (eqb-true _ 0 (sym c.is_empty.ensures ∙ c.loop-rest-test.true)) in
    record {
      left = ids_walked c.args.name.now c.args.value.now c.loop-rest.first c.loop-rest.behind _ c.loop-rest.rest.now c.postings-rest.result.now more others layer m c.postings-rest.ensures next _ none c.loop-rest.invariant.left;
      are = ids_left c.args.name.now c.args.value.now c.loop-rest.first c.loop-rest.behind _ c.loop-rest.rest.now c.postings-rest.result.now more others layer m c.postings-rest.ensures next c.loop-rest.invariant.are.few;
    }
