-- The orders of ranks are total, and a list that is sorted by what its elements stand for stands for a sorted list.
use Rattle.std.proofs.Common.{◌≡◌, Bool, true, false, cond, List, [], ◌∷◌, map, refl, sym, ap, ◌∙◌, subst}
use Rattle.std.specs.Cmp.{IsTotalOrder, IsStrictWeakOrder}
use Rattle.std.specs.Ordering.{int_cmp, is_gt, is_lt, ordering_reverse}
use Rattle.std.specs.declared.cmp.Ordering.{Ordering}
use Rattle.std.specs.declared.cmp.Ordering.TheVariants.{Less, Equal, Greater}
use Rattle.std.proofs.lemmas.Cmp.{int_cmp_total, then_total}
use Rattle.std.proofs.lemmas.List.MinMax.{ranks_by}
use Rattle.pf_base.specs.LabelOrder.{labels_total}
use Rattle.pf_base.specs.Sorting.{ins, isort}
use Rattle.pf_model.specs.declared.cell.Element.{Element}
use Rattle.pf_model.specs.Cells.{element_cmp}
use Rattle.pf_agg.specs.declared.rank.Rank.{Rank}
use Rattle.pf_agg.specs.declared.rank.Rank.TheVariants as rank
use Rattle.pf_agg.specs.Ranks.{order_of}

pub element_total : IsTotalOrder element_cmp
element_total = record {
  antisymm = λ e f. labels_total.antisymm e.labels f.labels;
  trans = λ e f g. labels_total.trans e.labels f.labels g.labels;
  congr = λ e f g. labels_total.congr e.labels f.labels g.labels;
}

pub element_weak : IsStrictWeakOrder (λ e f. is_lt (element_cmp e f))
element_weak = ranks_by labels_total (λ e. e.labels)

-- ---- by value

rising_values : IsTotalOrder {K = Element} (λ e f. int_cmp e.value f.value)
rising_values = record {
  antisymm = λ e f. int_cmp_total.antisymm e.value f.value;
  trans = λ e f g. int_cmp_total.trans e.value f.value g.value;
  congr = λ e f g. int_cmp_total.congr e.value f.value g.value;
}

twice : (a : Ordering) → ordering_reverse (ordering_reverse a) ≡ a
twice Less = refl
twice Equal = refl
twice Greater = refl

turned : {X : Type 0} (R : X → X → Ordering) → IsTotalOrder R → IsTotalOrder (λ x y. R y x)
turned R o = record {
  antisymm = λ x y. o.antisymm y x;
  trans = λ x y z p q. o.trans z y x q p;
  congr = λ x y z p.
      let back : R x y ≡ Equal = o.antisymm x y ∙ ap ordering_reverse p in
      o.antisymm z x ∙ ap ordering_reverse (o.congr x y z back) ∙ sym (o.antisymm z y);
}

falling_values : IsTotalOrder {K = Element} (λ e f. ordering_reverse (int_cmp e.value f.value))
falling_values =
    subst IsTotalOrder (λ i e f. int_cmp_total.antisymm f.value e.value i) (turned (λ e f. int_cmp e.value f.value) rising_values)

pub order_total : (r : Rank) → IsTotalOrder (order_of r)
order_total rank.Falling = then_total falling_values element_total
order_total rank.Rising = then_total rising_values element_total

-- ---- sorted by what is stood for

module _ {X Y : Type 0} (f : X → Y) (R : Y → Y → Ordering) where
  abbrev pub through : X → X → Ordering
  through x y = R (f x) (f y)

  pub through_total : IsTotalOrder R → IsTotalOrder through
  through_total o = record {
    antisymm = λ x y. o.antisymm (f x) (f y);
    trans = λ x y z. o.trans (f x) (f y) (f z);
    congr = λ x y z. o.congr (f x) (f y) (f z);
  }

  pub through_weak : IsTotalOrder R → IsStrictWeakOrder (λ x y. is_lt (through x y))
  through_weak o = ranks_by o f

  ins_by : (x y : X) (ys : List X) (b : Bool) → map f (ins through x ys) ≡ ins R (f x) (map f ys)
      → map f (cond b (y ∷ ins through x ys) (x ∷ y ∷ ys)) ≡ cond b (f y ∷ ins R (f x) (map f ys)) (f x ∷ f y ∷ map f ys)
  ins_by x y ys true h = ap (λ zs. f y ∷ zs) h
  ins_by x y ys false h = refl

  map_ins : (x : X) (ys : List X) → map f (ins through x ys) ≡ ins R (f x) (map f ys)
  map_ins x [] = refl
  map_ins x (y ∷ ys) = ins_by x y ys (is_gt (R (f x) (f y))) (map_ins x ys)

  pub map_isort : (xs : List X) → map f (isort through xs) ≡ isort R (map f xs)
  map_isort [] = refl
  map_isort (x ∷ xs) = map_ins x (isort through xs) ∙ ap (ins R (f x)) (map_isort xs)
