-- The results of matching elements are those of the pairs.
use Rattle.std.proofs.Common.{◌≡◌, ◌&&◌, not, cond, List, [], ◌∷◌, ◌++◌, map, refl, sym, ap, ◌∙◌}
use Rattle.std.specs.List.{filter}
use Rattle.std.proofs.lemmas.List.{map-append}
use Rattle.pf_base.specs.LabelSets.{Pairs}
use Rattle.pf_model.specs.declared.cell.Element.{Element}
use Rattle.pf_model.specs.declared.cell.StepCell.TheVariants.{Bad}
use Rattle.pf_model.specs.declared.cell.ErrorKind.TheVariants.{DoubleOnOneSide, ManyToMany, GroupingNotUnique}
use Rattle.pf_model.specs.declared.expr.BinaryOp.{BinaryOp}
use Rattle.pf_model.specs.declared.expr.Side.{Side}
use Rattle.pf_model.specs.declared.expr.Side.TheVariants as side
use Rattle.pf_model.specs.Cells.{element, has_equal, cell_of}
use Rattle.pf_model.specs.Clauses.{Matched}
use Rattle.pf_model.specs.Lists.{joined}
use Rattle.pf_model.specs.Matching.{Pair, is_grouping, joined_pairs, keys_of, many_to_many, matches_of, matching_key, one_side, operated, pair_labels, pairs_of, result_labels}
use Rattle.pf_model.specs.Selection.{same_labels}
use Rattle.pf_join.specs.declared.matching.Joined.{Joined}
use Rattle.pf_join.specs.Results.{elements_of, joined_results, labels_of_pair, result_of, results_of}

-- the labels of a pair don't depend on its values
abbrev with_side : Side → Matched → Matched
with_side s m = record { on = m.on; labels = m.labels; side = s; include = m.include }

pub same_labels_at : (s : Side) (m : Matched) (p : Pair) → labels_of_pair (with_side s m) p.left.labels p.right.labels ≡ pair_labels (with_side s m) p
same_labels_at side.One m p = refl
same_labels_at side.Left m p = refl
same_labels_at side.Right m p = refl

module _ (op : BinaryOp) (m : Matched) where
  abbrev of_pair : Pair → Joined
  of_pair p = result_of op m p.left p.right

  labels_same : (p : Pair) → labels_of_pair m p.left.labels p.right.labels ≡ pair_labels m p
  labels_same p = same_labels_at m.side m p

  with_left : (l : Element) (rs : List Element) → map of_pair (map (λ r. record { left = l; right = r }) rs) ≡ map (result_of op m l) rs
  with_left l [] = refl
  with_left l (r ∷ rs) = ap (λ zs. result_of op m l r ∷ zs) (with_left l rs)

  results_are : (lefts rights : List Element) → joined (results_of op m rights) lefts ≡ map of_pair (pairs_of m lefts rights)
  results_are [] rights = refl
  results_are (l ∷ ls) rights =
      ap (λ zs. zs ++ joined (results_of op m rights) ls) (sym (with_left l (filter (λ r. same_labels (matching_key m l.labels) (matching_key m r.labels)) rights)))
      ∙ ap (λ zs. map of_pair (matches_of m rights l) ++ zs) (results_are ls rights)
      ∙ sym (map-append of_pair (matches_of m rights l) (pairs_of m ls rights))

  labels_are : (ps : List Pair) → map (λ j. j.labels) (map of_pair ps) ≡ map (λ p. result_labels op (pair_labels m p)) ps
  labels_are [] = refl
  labels_are (p ∷ ps) =
      ap (λ l. result_labels op l ∷ map (λ j. j.labels) (map of_pair ps)) (labels_same p)
      ∙ ap (λ zs. result_labels op (pair_labels m p) ∷ zs) (labels_are ps)

  abbrev value_of_pair : Pair → List Element
  value_of_pair p = element (result_labels op (pair_labels m p)) (operated op p.left.value p.left.value p.right.value)

  elements_are : (ps : List Pair) → elements_of (map of_pair ps) ≡ joined value_of_pair ps
  elements_are [] = refl
  elements_are (p ∷ ps) =
      ap (λ l. element (result_labels op l) (operated op p.left.value p.left.value p.right.value) ++ elements_of (map of_pair ps)) (labels_same p)
      ∙ ap (λ zs. value_of_pair p ++ zs) (elements_are ps)

  cells_are : (lefts rights : List Element) (js : List Joined) (ls : List Pairs) (es : List Element)
      → js ≡ map of_pair (pairs_of m lefts rights) → map (λ j. j.labels) (map of_pair (pairs_of m lefts rights)) ≡ ls
      → elements_of (map of_pair (pairs_of m lefts rights)) ≡ es
      → cond (is_grouping m.side && has_equal (map (λ j. j.labels) js)) (Bad GroupingNotUnique) (cell_of (elements_of js))
      ≡ cond (is_grouping m.side && has_equal ls) (Bad GroupingNotUnique) (cell_of es)
  cells_are lefts rights js ls es h k e =
      ap (λ found. cond (is_grouping m.side && has_equal (map (λ j. j.labels) found)) (Bad GroupingNotUnique) (cell_of (elements_of found))) h
      ∙ ap (λ found. cond (is_grouping m.side && has_equal found) (Bad GroupingNotUnique) (cell_of (elements_of (map of_pair (pairs_of m lefts rights))))) k
      ∙ ap (λ found. cond (is_grouping m.side && has_equal ls) (Bad GroupingNotUnique) (cell_of found)) e

  pub results_are_pairs : (lefts rights : List Element) → joined_results op m lefts rights ≡ joined_pairs op m lefts rights
  results_are_pairs lefts rights =
      let pairs = pairs_of m lefts rights in
      ap (λ found. cond (has_equal (keys_of m (one_side m.side lefts rights))) (Bad DoubleOnOneSide)
      (cond (not (is_grouping m.side) && many_to_many m lefts rights) (Bad ManyToMany) found))
      (cells_are lefts rights (joined (results_of op m rights) lefts) (map (λ p. result_labels op (pair_labels m p)) pairs)
      (joined value_of_pair pairs) (results_are lefts rights) (labels_are pairs) (elements_are pairs))
