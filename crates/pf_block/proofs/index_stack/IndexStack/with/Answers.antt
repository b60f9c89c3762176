use Rattle.std.proofs.Common.{◌≡◌, ◌-◌, ◌<◌, ◌^◌, ◌++◌, true, length, map, take, drop, sym, ap, ◌∙◌, subst, arith}
use Rattle.std.specs.Arc.{arc_value}
use Rattle.std.specs.List.{All}
use Rattle.std.proofs.lemmas.List.{drop-map, length-append, take-map, take_rest}
use Rattle.std.proofs.lemmas.List.Elements.{All-append}
use Rattle.pf_base.specs.LabelSets.{IsLabels}
use Rattle.pf_block.specs.IndexStacks.{joined}
use Rattle.pf_block.specs.Snaps.{are_apart}
use Rattle.pf_block.proofs.Joining.{apart_kept, kept_on}
use Rattle.pf_block.proofs.index_stack.IndexStack.with.Goals as goal

pub merged-requires : goal.merged-requires
merged-requires c =
    let layers = map arc_value c.self.inside.layers.items in
    let kept = c.kept_below-kept.result in
    let rest : map arc_value (take (length c.deref-2.result.now - kept) (drop kept c.deref-2.result.now)) ≡ drop kept layers =
    ap (map arc_value) (take_rest c.deref-2.result.now kept) ∙ sym (drop-map arc_value kept c.deref-2.result.now) ∙ ap (λ x. drop kept (map arc_value x)) c.deref-2.ensures.value in
    subst (λ x. are_apart (joined x ++ c.args.top) ≡ true) (sym rest) (apart_kept kept layers c.args.top (subst (λ x. are_apart (x ++ c.args.top) ≡ true) (sym c.self.view_is) c.requires.apart))

pub invariant_of-result : goal.invariant_of-result
invariant_of-result c =
    let layers = map arc_value c.self.inside.layers.items in
    let kept = c.kept_below-kept.result in
    let rest : map arc_value (take (length c.deref-2.result.now - kept) (drop kept c.deref-2.result.now)) ≡ drop kept layers =
    ap (map arc_value) (take_rest c.deref-2.result.now kept) ∙ sym (drop-map arc_value kept c.deref-2.result.now) ∙ ap (λ x. drop kept (map arc_value x)) c.deref-2.ensures.value in
    let low : map arc_value (take kept c.deref-3.result.now) ≡ take kept layers = sym (take-map arc_value kept c.deref-3.result.now) ∙ ap (λ x. take kept (map arc_value x)) c.deref-3.ensures.value in
    let all : joined (map arc_value c.in_ok-layers.layers.items) ≡ joined layers ++ c.args.top =
    kept_on kept layers c.args.top (joined (map arc_value c.in_ok-layers.layers.items))
    (c.in_ok-layers.ensures ∙ ap (λ x. x ++ c.in_ok-top.top) (ap joined low) ∙ ap (λ x. joined (take kept layers) ++ x) (c.in_ok-top.ensures ∙ ap (λ x. joined x ++ c.args.top) rest)) in
    let n = length-append (joined layers) c.args.top in
    let m = ap length all in
    record {
      apart = subst (λ x. are_apart x ≡ true) (sym all) (subst (λ x. are_apart (x ++ c.args.top) ≡ true) (sym c.self.view_is) c.requires.apart);
      lawful = subst (All IsLabels) (sym all) (All-append IsLabels (joined layers) c.args.top c.self.invariant.lawful c.count.ensures.lawful);
      counted = omega (arith, n, m, c.self.invariant.counted, c.count.ensures.value);
      few = subst (λ x. length x < 2 ^ 32) (sym all) (subst (λ x. length (x ++ c.args.top) < 2 ^ 32) (sym c.self.view_is) c.requires.few);
    }

pub returns : goal.returns
returns c =
    let layers = map arc_value c.self.inside.layers.items in
    let kept = c.kept_below-kept.result in
    let rest : map arc_value (take (length c.deref-2.result.now - kept) (drop kept c.deref-2.result.now)) ≡ drop kept layers =
    ap (map arc_value) (take_rest c.deref-2.result.now kept) ∙ sym (drop-map arc_value kept c.deref-2.result.now) ∙ ap (λ x. drop kept (map arc_value x)) c.deref-2.ensures.value in
    let low : map arc_value (take kept c.deref-3.result.now) ≡ take kept layers = sym (take-map arc_value kept c.deref-3.result.now) ∙ ap (λ x. take kept (map arc_value x)) c.deref-3.ensures.value in
    let all : joined (map arc_value c.in_ok-layers.layers.items) ≡ joined layers ++ c.args.top =
    kept_on kept layers c.args.top (joined (map arc_value c.in_ok-layers.layers.items))
    (c.in_ok-layers.ensures ∙ ap (λ x. x ++ c.in_ok-top.top) (ap joined low) ∙ ap (λ x. joined (take kept layers) ++ x) (c.in_ok-top.ensures ∙ ap (λ x. joined x ++ c.args.top) rest)) in
    all ∙ ap (λ x. x ++ c.args.top) c.self.view_is
