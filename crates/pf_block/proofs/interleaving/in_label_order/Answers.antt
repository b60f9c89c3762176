use Rattle.std.proofs.Common.{◌≡◌, ◌-◌, ◌<◌, ◌≤◌, [], length, map, take, drop, get_or, sym, ap, ◌∙◌, subst, arith}
use Rattle.std.specs.Arc.{arc_value}
use Rattle.std.specs.List.{All}
use Rattle.std.proofs.lemmas.List.{drop_all, length-map}
use Rattle.std.proofs.lemmas.List.Elements.{All-drop, All-take}
use Rattle.pf_block.specs.IndexStacks.{joined}
use Rattle.pf_block.specs.LabelOrders.{in_label_order}
use Rattle.pf_block.proofs.Interleaved.{all_found, begins, count_few, cut_below, cut_found, cut_is, cut_rises, next_below, next_first, order_again, order_within, taken_rises, whole_few}
use Rattle.pf_block.proofs.Joining.{joined_all, layer_is}
use Rattle.pf_block.proofs.interleaving.in_label_order.Goals as goal

pub loop-place-init : goal.loop-place-init
loop-place-init c =
    let ls = joined (map arc_value c.args.layers.now) in
    record {
      within = omega arith;
      inside = omega arith;
      first = c.requires.count ∙ sym (joined_all arc_value c.args.layers.now (length c.args.layers.now) (omega arith));
      below = λ k l. subst (λ n. get_or c.args.ids.now k 0 < n) (sym c.requires.count) (c.requires.within k 0 l);
      found = c.new-found.ensures.items ∙ ap (in_label_order ls) (sym (drop_all (length c.args.ids.now) c.args.ids.now (omega arith)));
    }

pub overflow_sub-first : goal.overflow_sub-first
overflow_sub-first c =
    let layers = map arc_value c.args.layers.now in
    let layer = c.index.result.now in
    let n = c.loop-place.place - 1 in
    let is : layer ≡ get_or layers n [] = layer_is arc_value c.args.layers.now n c.index-layers-place.result layer (omega arith) c.index-layers-place.is (c.index.ensures ∙ c.deref.ensures) in
    let count = c.count-first.ensures.value in
    let inside : c.loop-place.place ≤ length layers = omega (arith, length-map c.args.layers.now arc_value, c.loop-place.invariant.within) in
    count_few layers layer c.loop-place.place c.loop-place.first c.count-first.result c.loop-place.end c.args.ids.now (omega arith) inside is c.loop-place.invariant.first count c.requires.rising c.loop-place.invariant.inside c.loop-place.invariant.below

pub count_below-begin-requires : goal.count_below-begin-requires
count_below-begin-requires c =
    let layers = map arc_value c.args.layers.now in
    let layer = c.index.result.now in
    let n = c.loop-place.place - 1 in
    let is : layer ≡ get_or layers n [] = layer_is arc_value c.args.layers.now n c.index-layers-place.result layer (omega arith) c.index-layers-place.is (c.index.ensures ∙ c.deref.ensures) in
    let count = c.count-first.ensures.value in
    let inside : c.loop-place.place ≤ length layers = omega (arith, length-map c.args.layers.now arc_value, c.loop-place.invariant.within) in
    taken_rises layers layer c.loop-place.place c.loop-place.first c.count-first.result c.loop-place.end c.args.ids.now (omega arith) inside is c.loop-place.invariant.first count c.requires.rising c.loop-place.invariant.inside c.loop-place.invariant.below

pub ordered-requires-clause-few : goal.ordered-requires-clause-few
ordered-requires-clause-few c =
    let layers = map arc_value c.args.layers.now in
    let layer = c.deref-in-loop-place.result.now in
    let n = c.loop-place.place - 1 in
    let is : layer ≡ get_or layers n [] = layer_is arc_value c.args.layers.now n c.index-layers-place.result layer (omega arith) c.index-layers-place.is (c.deref-in-loop-place.ensures) in
    let count = c.count-first.ensures.value ∙ ap length (c.index.ensures ∙ c.deref.ensures ∙ sym c.deref-in-loop-place.ensures) in
    let inside : c.loop-place.place ≤ length layers = omega (arith, length-map c.args.layers.now arc_value, c.loop-place.invariant.within) in
    let w = whole_few layers layer c.loop-place.place c.loop-place.first c.count-first.result c.loop-place.end c.args.ids.now (omega arith) inside is c.loop-place.invariant.first count c.requires.rising c.loop-place.invariant.inside c.loop-place.invariant.below in
    omega (arith, w)

pub ordered-requires-clause-rising : goal.ordered-requires-clause-rising
ordered-requires-clause-rising c =
    let layers = map arc_value c.args.layers.now in
    let layer = c.deref-in-loop-place.result.now in
    let n = c.loop-place.place - 1 in
    let is : layer ≡ get_or layers n [] = layer_is arc_value c.args.layers.now n c.index-layers-place.result layer (omega arith) c.index-layers-place.is (c.deref-in-loop-place.ensures) in
    let count = c.count-first.ensures.value ∙ ap length (c.index.ensures ∙ c.deref.ensures ∙ sym c.deref-in-loop-place.ensures) in
    let inside : c.loop-place.place ≤ length layers = omega (arith, length-map c.args.layers.now arc_value, c.loop-place.invariant.within) in
    cut_rises layers layer c.loop-place.place c.loop-place.first c.count-first.result c.loop-place.end c.args.ids.now (omega arith) inside is c.loop-place.invariant.first count c.requires.rising c.loop-place.invariant.inside c.loop-place.invariant.below
    c.count_below-begin.result c.count_below-begin.ensures.within c.count_below-begin.ensures.below c.count_below-begin.ensures.above

pub ordered-requires-clause-within : goal.ordered-requires-clause-within
ordered-requires-clause-within c =
    let layers = map arc_value c.args.layers.now in
    let layer = c.deref-in-loop-place.result.now in
    let n = c.loop-place.place - 1 in
    let is : layer ≡ get_or layers n [] = layer_is arc_value c.args.layers.now n c.index-layers-place.result layer (omega arith) c.index-layers-place.is (c.deref-in-loop-place.ensures) in
    let count = c.count-first.ensures.value ∙ ap length (c.index.ensures ∙ c.deref.ensures ∙ sym c.deref-in-loop-place.ensures) in
    let inside : c.loop-place.place ≤ length layers = omega (arith, length-map c.args.layers.now arc_value, c.loop-place.invariant.within) in
    cut_below layers layer c.loop-place.place c.loop-place.first c.count-first.result c.loop-place.end c.args.ids.now (omega arith) inside is c.loop-place.invariant.first count c.requires.rising c.loop-place.invariant.inside c.loop-place.invariant.below
    c.count_below-begin.result c.count_below-begin.ensures.within c.count_below-begin.ensures.below c.count_below-begin.ensures.above

pub merged-requires-clause-first : goal.merged-requires-clause-first
merged-requires-clause-first c =
    let layers = map arc_value c.args.layers.now in
    let layer = c.deref-in-loop-place.result.now in
    let n = c.loop-place.place - 1 in
    let is : layer ≡ get_or layers n [] = layer_is arc_value c.args.layers.now n c.index-layers-place.result layer (omega arith) c.index-layers-place.is (c.deref-in-loop-place.ensures) in
    let count = c.count-first.ensures.value ∙ ap length (c.index.ensures ∙ c.deref.ensures ∙ sym c.deref-in-loop-place.ensures) in
    let inside : c.loop-place.place ≤ length layers = omega (arith, length-map c.args.layers.now arc_value, c.loop-place.invariant.within) in
    order_again (joined layers) (take (c.loop-place.end - c.count_below-begin.result) (drop c.count_below-begin.result c.args.ids.now)) c.in_ok-part.part.items
    (cut_is layers layer c.loop-place.place c.loop-place.first c.count-first.result c.loop-place.end c.args.ids.now (omega arith) inside is c.loop-place.invariant.first count c.requires.rising c.loop-place.invariant.inside c.loop-place.invariant.below
    c.count_below-begin.result c.count_below-begin.ensures.within c.count_below-begin.ensures.below c.count_below-begin.ensures.above c.in_ok-part.part.items c.in_ok-part.ensures)

pub merged-requires-clause-second : goal.merged-requires-clause-second
merged-requires-clause-second c = order_again (joined (map arc_value c.args.layers.now)) (drop c.loop-place.end c.args.ids.now) c.loop-place.found.items c.loop-place.invariant.found

pub merged-requires-clause-first_within : goal.merged-requires-clause-first_within
merged-requires-clause-first_within c =
    let layers = map arc_value c.args.layers.now in
    let layer = c.deref-in-loop-place.result.now in
    let n = c.loop-place.place - 1 in
    let is : layer ≡ get_or layers n [] = layer_is arc_value c.args.layers.now n c.index-layers-place.result layer (omega arith) c.index-layers-place.is (c.deref-in-loop-place.ensures) in
    let count = c.count-first.ensures.value ∙ ap length (c.index.ensures ∙ c.deref.ensures ∙ sym c.deref-in-loop-place.ensures) in
    let inside : c.loop-place.place ≤ length layers = omega (arith, length-map c.args.layers.now arc_value, c.loop-place.invariant.within) in
    let begin = c.count_below-begin.result in
    let end = c.loop-place.end in
    order_within (joined layers) (length (joined layers)) (take (end - begin) (drop begin c.args.ids.now)) c.in_ok-part.part.items
    (cut_is layers layer c.loop-place.place c.loop-place.first c.count-first.result c.loop-place.end c.args.ids.now (omega arith) inside is c.loop-place.invariant.first count c.requires.rising c.loop-place.invariant.inside c.loop-place.invariant.below
    c.count_below-begin.result c.count_below-begin.ensures.within c.count_below-begin.ensures.below c.count_below-begin.ensures.above c.in_ok-part.part.items c.in_ok-part.ensures)
    (All-take (λ id. id < length (joined layers)) (end - begin) (drop begin c.args.ids.now) (All-drop (λ id. id < length (joined layers)) begin c.args.ids.now c.requires.within))

pub merged-requires-clause-second_within : goal.merged-requires-clause-second_within
merged-requires-clause-second_within c =
    let ls = joined (map arc_value c.args.layers.now) in
    order_within ls (length ls) (drop c.loop-place.end c.args.ids.now) c.loop-place.found.items c.loop-place.invariant.found (All-drop (λ id. id < length ls) c.loop-place.end c.args.ids.now c.requires.within)

pub loop-place-preserved : goal.loop-place-preserved
loop-place-preserved c =
    let layers = map arc_value c.args.layers.now in
    let layer = c.deref-in-loop-place.result.now in
    let n = c.loop-place.place - 1 in
    let is : layer ≡ get_or layers n [] = layer_is arc_value c.args.layers.now n c.index-layers-place.result layer (omega arith) c.index-layers-place.is (c.deref-in-loop-place.ensures) in
    let count = c.count-first.ensures.value ∙ ap length (c.index.ensures ∙ c.deref.ensures ∙ sym c.deref-in-loop-place.ensures) in
    let inside : c.loop-place.place ≤ length layers = omega (arith, length-map c.args.layers.now arc_value, c.loop-place.invariant.within) in
    let low = begins layers layer c.loop-place.place c.loop-place.first c.count-first.result c.loop-place.end c.args.ids.now (omega arith) inside is c.loop-place.invariant.first count c.requires.rising c.loop-place.invariant.inside c.loop-place.invariant.below
    c.count_below-begin.result c.count_below-begin.ensures.within c.count_below-begin.ensures.below c.count_below-begin.ensures.above in
    record {
      within = omega arith;
      inside = omega (arith, low, c.loop-place.invariant.inside);
      first = next_first layers layer c.loop-place.place c.loop-place.first c.count-first.result c.loop-place.end c.args.ids.now (omega arith) inside is c.loop-place.invariant.first count c.requires.rising c.loop-place.invariant.inside c.loop-place.invariant.below;
      below = next_below layers layer c.loop-place.place c.loop-place.first c.count-first.result c.loop-place.end c.args.ids.now (omega arith) inside is c.loop-place.invariant.first count c.requires.rising c.loop-place.invariant.inside c.loop-place.invariant.below
          c.count_below-begin.result c.count_below-begin.ensures.within c.count_below-begin.ensures.below c.count_below-begin.ensures.above;
      found = cut_found layers layer c.loop-place.place c.loop-place.first c.count-first.result c.loop-place.end c.args.ids.now (omega arith) inside is c.loop-place.invariant.first count c.requires.rising c.loop-place.invariant.inside c.loop-place.invariant.below
          c.count_below-begin.result c.count_below-begin.ensures.within c.count_below-begin.ensures.below c.count_below-begin.ensures.above c.loop-place.found.items c.in_ok-part.part.items c.in_ok-found.found.items
          (cut_is layers layer c.loop-place.place c.loop-place.first c.count-first.result c.loop-place.end c.args.ids.now (omega arith) inside is c.loop-place.invariant.first count c.requires.rising c.loop-place.invariant.inside c.loop-place.invariant.below
          c.count_below-begin.result c.count_below-begin.ensures.within c.count_below-begin.ensures.below c.count_below-begin.ensures.above c.in_ok-part.part.items c.in_ok-part.ensures)
          c.loop-place.invariant.found c.in_ok-found.ensures;
    }

pub returns : goal.returns
returns c =
    let none : c.loop-place.place ≡ 0 = omega arith in
    all_found (joined (map arc_value c.args.layers.now)) c.args.ids.now c.loop-place.found.items c.loop-place.first c.loop-place.end
    (c.loop-place.invariant.first ∙ ap (λ n. length (joined (take n (map arc_value c.args.layers.now)))) none) c.loop-place.invariant.below c.loop-place.invariant.found
