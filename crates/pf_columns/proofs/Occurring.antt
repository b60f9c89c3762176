-- The label sets that occur in vectors are those that have a sample.
use Rattle.std.proofs.Common.{◌≡◌, ℕ, ℤ, pos, Bool, true, false, cond, ◌||◌, List, [], ◌∷◌, ◌++◌, map, refl, sym, ◌∙◌}
use Rattle.std.specs.List.{filter}
use Rattle.pf_base.specs.declared.plain.Sample.{Sample}
use Rattle.pf_base.specs.LabelSets.{Pairs}
use Rattle.pf_model.specs.declared.cell.Element.{Element}
use Rattle.pf_model.specs.Cells.{labels_of, occurring, samples_of}
use Rattle.pf_model.specs.Lists.{joined}
use Rattle.pf_model.specs.Selection.{same_labels}
use Rattle.pf_model.proofs.KeySets.{distinct_ascends, distinct_in, in_append, same_turned, stands_in}
use Rattle.pf_model.proofs.SelectorLabels.{Ascends}

abbrev pub point_of : ℕ → Element → Sample
point_of t e = record { time = pos t; value = e.value }

abbrev pub with_labels : Pairs → List Element → List Element
with_labels l es = filter (λ e. same_labels e.labels l) es

abbrev pub is_full : {X : Type 0} → List X → Bool
is_full [] = false
is_full (x ∷ xs) = true

full_map : {X Y : Type 0} (f : X → Y) (xs : List X) → is_full (map f xs) ≡ is_full xs
full_map f [] = refl
full_map f (x ∷ xs) = refl

full_append : {X : Type 0} (xs ys : List X) → is_full (xs ++ ys) ≡ (is_full xs || is_full ys)
full_append [] ys = refl
full_append (x ∷ xs) ys = refl

full_by : (l : Pairs) (e : Element) (es : List Element) (b : Bool) → (b || is_full (with_labels l es)) ≡ is_full (cond b (e ∷ with_labels l es) (with_labels l es))
full_by l e es true = refl
full_by l e es false = refl

labels_in : (l : Pairs) (es : List Element) → stands_in l (labels_of es) ≡ is_full (with_labels l es)
labels_in l [] = refl
labels_in l (e ∷ es) = (λ i. same_turned l e.labels i || labels_in l es i) ∙ full_by l e es (same_labels e.labels l)

module _ {X : Type 0} (time : X → ℤ) (vector : X → List Element) where
  abbrev timed : X → Element → Sample
  timed x e = record { time = time x; value = e.value }

  abbrev all_labels : List X → List Pairs
  all_labels xs = joined (λ x. labels_of (vector x)) xs

  pub have_samples : (l : Pairs) (xs : List X) → stands_in l (all_labels xs) ≡ is_full (samples_of time vector l xs)
  have_samples l [] = refl
  have_samples l (x ∷ xs) =
      in_append l (labels_of (vector x)) (all_labels xs)
      ∙ (λ i. (labels_in l (vector x) ∙ sym (full_map (timed x) (with_labels l (vector x)))) i || have_samples l xs i)
      ∙ sym (full_append (map (timed x) (with_labels l (vector x))) (samples_of time vector l xs))

  pub occurring_in : (l : Pairs) (xs : List X) → stands_in l (occurring vector xs) ≡ is_full (samples_of time vector l xs)
  occurring_in l xs = distinct_in l (all_labels xs) ∙ have_samples l xs

pub occurring_ascend : {X : Type 0} (vector : X → List Element) (xs : List X) → Ascends (occurring vector xs)
occurring_ascend vector xs = distinct_ascends (joined (λ x. labels_of (vector x)) xs)
