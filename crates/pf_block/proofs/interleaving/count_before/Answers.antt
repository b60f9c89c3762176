use Rattle.std.proofs.Common.{◌≡◌, ◌+◌, ◌<◌, [], is_lt, length, map, get_or, sym, ap, ◌∙◌, arith}
use Rattle.std.specs.Arc.{arc_value}
use Rattle.pf_base.specs.LabelOrder.{labels_cmp}
use Rattle.pf_block.specs.IndexStacks.{joined}
use Rattle.pf_block.proofs.Interleaved.{before_by_labels, before_upto, behind_by_labels, behind_from}
use Rattle.pf_block.proofs.interleaving.count_before.Goals as goal

pub loop-low-preserved-then-lt : goal.loop-low-preserved-then-lt
loop-low-preserved-then-lt c =
    let ls = joined (map arc_value c.args.layers.now) in
    let ids = c.args.ids.now in
    let place = c.loop-low.low + c.min.result in
    let inside : place < c.loop-low.high = omega (arith, c.min.ensures, c.loop-low-test.true) in
    let there : place < length ids = omega (arith, inside, c.loop-low.invariant.within) in
    let labels : is_lt (labels_cmp (get_or ls (get_or ids place 0) []) (get_or ls c.args.id [])) ≡ is_lt (labels_cmp c.labels_in.result.now c.labels_in-labels.result.now) =
    (λ i. is_lt (labels_cmp (sym c.labels_in.ensures i) (sym c.labels_in-labels.ensures i))) in
    record {
      order = omega (arith, inside);
      within = c.loop-low.invariant.within;
      before = before_upto ls ids c.args.id c.requires.ordered place there (before_by_labels ls c.args.id (get_or ids place 0) (labels ∙ sym c.lt.ensures ∙ c.if-lt.true));
      behind = c.loop-low.invariant.behind;
    }

pub loop-low-preserved : goal.loop-low-preserved
loop-low-preserved c =
    let ls = joined (map arc_value c.args.layers.now) in
    let ids = c.args.ids.now in
    let place = c.loop-low.low + c.min.result in
    let inside : place < c.loop-low.high = omega (arith, c.min.ensures, c.loop-low-test.true) in
    let there : place < length ids = omega (arith, inside, c.loop-low.invariant.within) in
    let labels : is_lt (labels_cmp (get_or ls (get_or ids place 0) []) (get_or ls c.args.id [])) ≡ is_lt (labels_cmp c.labels_in.result.now c.labels_in-labels.result.now) =
    (λ i. is_lt (labels_cmp (sym c.labels_in.ensures i) (sym c.labels_in-labels.ensures i))) in
    record {
      order = omega arith;
      within = omega (arith, inside, c.loop-low.invariant.within);
      before = c.loop-low.invariant.before;
      behind = behind_from ls ids c.args.id c.requires.ordered place
          (behind_by_labels ls c.args.id (get_or ids place 0) c.requires.apart c.requires.there (c.requires.within place 0 there) (labels ∙ sym c.lt.ensures ∙ c.if-lt.false));
    }
