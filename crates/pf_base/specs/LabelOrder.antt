-- The order of label sets: by name bytes, then by value bytes, as lists of pairs. This project's own.
use Rattle.std.specs.Prelude.{◌≡◌, ℕ, Bool, ◌&&◌, List, nat_eq}
use Rattle.std.specs.declared.cmp.Ordering.{Ordering}
use Rattle.std.specs.Bool.{Decides}
use Rattle.std.specs.Ordering.{nat_cmp, ordering_then, eq_by_cmp, is_eq}
use Rattle.std.specs.Cmp.{IsTotalOrder, IsEquivalence, then_total, and_equiv, both_tied, Equal-is}
use Rattle.std.specs.Cmp.Lexicographic.{slice_cmp, pointwise, lists_total, lists_equiv, lists_ties, on_texts, on_texts_equal, texts_ties, pointwise_decides}
use Rattle.std.specs.declared.cmp.Ordering.TheVariants.{Equal}
use Rattle.std.proofs.Common.{sym, ap, ◌∙◌}
use Rattle.std.proofs.lemmas.Map.Lookups.{exact_bytes, exact_pairs}
use Rattle.pf_base.specs.LabelSets.{Pairs}

abbrev pub pair_cmp : List ℕ × List ℕ → List ℕ × List ℕ → Ordering
pair_cmp p q = ordering_then (slice_cmp nat_cmp p.0 q.0) (slice_cmp nat_cmp p.1 q.1)

abbrev pub labels_cmp : Pairs → Pairs → Ordering
labels_cmp = slice_cmp pair_cmp

abbrev pub pair_eq : List ℕ × List ℕ → List ℕ × List ℕ → Bool
pair_eq p q = pointwise nat_eq p.0 q.0 && pointwise nat_eq p.1 q.1

abbrev pub labels_eq : Pairs → Pairs → Bool
labels_eq = pointwise pair_eq

-- the laws: both are as orders and equalities are, they agree, and neither takes two for one
pub pair_total : IsTotalOrder pair_cmp
pair_total = then_total (on_texts (λ p. p.0)) (on_texts (λ p. p.1))

pub labels_total : IsTotalOrder labels_cmp
labels_total = lists_total pair_total

pub pair_equiv : IsEquivalence pair_eq
pair_equiv = and_equiv (on_texts_equal (λ p. p.0)) (on_texts_equal (λ p. p.1))

pub labels_equiv : IsEquivalence labels_eq
labels_equiv = lists_equiv pair_equiv

pub pair_ties : (p q : List ℕ × List ℕ) → pair_eq p q ≡ eq_by_cmp pair_cmp p q
pair_ties p q = both_tied _ _ _ _ (texts_ties p.0 q.0) (texts_ties p.1 q.1)

pub labels_ties : (x y : Pairs) → labels_eq x y ≡ eq_by_cmp labels_cmp x y
labels_ties = lists_ties pair_cmp pair_ties

pub pair_exact : (p q : List ℕ × List ℕ) → pair_cmp p q ≡ Equal → p ≡ q
pair_exact = exact_pairs (slice_cmp nat_cmp) (slice_cmp nat_cmp) exact_bytes exact_bytes

pub pair_decides : (p q : List ℕ × List ℕ) → Decides (pair_eq p q) (p ≡ q)
pair_decides p q = (
  λ e. pair_exact p q ((Equal-is (pair_cmp p q)).0 (sym (pair_ties p q) ∙ e)),
  λ e. ap (pair_eq p) (sym e) ∙ pair_equiv.refl p,
)

-- two label sets are equal exactly where `==` says so
pub labels_decides : (x y : Pairs) → Decides (labels_eq x y) (x ≡ y)
labels_decides = pointwise_decides pair_decides

pub labels_exact : (x y : Pairs) → labels_cmp x y ≡ Equal → x ≡ y
labels_exact x y e = (labels_decides x y).0 (labels_ties x y ∙ ap is_eq e)
