-- What is found by keys in order is what the comparison of all keys finds.
use Rattle.std.proofs.Common.{◌≡◌, Bool, true, false, cond, not, ◌&&◌, ◌||◌, List, [], ◌∷◌, ◌++◌, map, refl, ap, ◌∙◌}
use Rattle.std.specs.List.{filter, list_any}
use Rattle.std.proofs.lemmas.List.Elements.{filter_agree}
use Rattle.pf_base.specs.LabelSets.{Pairs}
use Rattle.pf_base.specs.Sorting.{isort}
use Rattle.pf_model.specs.declared.cell.Element.{Element}
use Rattle.pf_model.specs.declared.cell.StepCell.TheVariants.{Bad}
use Rattle.pf_model.specs.declared.cell.ErrorKind.TheVariants.{DoubleOnOneSide, ManyToMany}
use Rattle.pf_model.specs.declared.expr.BinaryOp.{BinaryOp}
use Rattle.pf_model.specs.declared.expr.Side.{Side}
use Rattle.pf_model.specs.declared.expr.Side.TheVariants as side
use Rattle.pf_model.specs.Cells.{has_equal}
use Rattle.pf_model.specs.Clauses.{Matched}
use Rattle.pf_model.specs.Lists.{joined}
use Rattle.pf_model.specs.Matching.{has_match, is_grouping, joined_pairs, keys_of, many_to_many, matching_key, one_side}
use Rattle.pf_model.specs.Selection.{same_labels}
use Rattle.pf_join.specs.declared.keys.Keyed.{Keyed}
use Rattle.pf_join.specs.KeyedElements.{has_double, has_key, joined_keyed, key_of, keyed, keyed_cmp, keyed_of, keyed_results, shared_keys, those_with, those_without, with_key}
use Rattle.pf_join.specs.Results.{cell_of_results, result_of, results_of}
use Rattle.pf_join.proofs.Repeats.{any_isort, equal_isort}
use Rattle.pf_join.proofs.OfOneKey.{with_isort}
use Rattle.pf_join.proofs.Results.{results_are_pairs}

-- ---- some element has a key

any_keys : (k : Pairs) (xs : List Keyed) → has_key k xs ≡ list_any (same_labels k) (map key_of xs)
any_keys k [] = refl
any_keys k (x ∷ xs) = ap (λ b. same_labels k x.key || b) (any_keys k xs)

pub keys_are : (m : Matched) (es : List Element) → map key_of (keyed m es) ≡ keys_of m es
keys_are m [] = refl
keys_are m (e ∷ es) = ap (λ ks. matching_key m e.labels ∷ ks) (keys_are m es)

pub has_key_is : (m : Matched) (es : List Element) (k : Pairs) → has_key k (isort keyed_cmp (keyed m es)) ≡ list_any (same_labels k) (keys_of m es)
has_key_is m es k =
    any_keys k (isort keyed_cmp (keyed m es)) ∙ any_isort key_of k (keyed m es) ∙ ap (list_any (same_labels k)) (keys_are m es)

pub those_with_is : (m : Matched) (others es : List Element) → those_with m (isort keyed_cmp (keyed m others)) es ≡ filter (has_match m others) es
those_with_is m others es =
    filter_agree (λ e. has_key (matching_key m e.labels) (isort keyed_cmp (keyed m others))) (has_match m others)
    (λ e. has_key_is m others (matching_key m e.labels)) es

pub those_without_is : (m : Matched) (others es : List Element) → those_without m (isort keyed_cmp (keyed m others)) es ≡ filter (λ e. not (has_match m others e)) es
those_without_is m others es =
    filter_agree (λ e. not (has_key (matching_key m e.labels) (isort keyed_cmp (keyed m others)))) (λ e. not (has_match m others e))
    (λ e. ap not (has_key_is m others (matching_key m e.labels))) es

pub either_is : (m : Matched) (ls rs : List Element) → ls ++ those_without m (isort keyed_cmp (keyed m ls)) rs ≡ ls ++ filter (λ r. not (has_match m ls r)) rs
either_is m ls rs = ap (λ es. ls ++ es) (those_without_is m ls rs)

-- ---- the errors

double_is : (s : Side) (m : Matched) (ls rs : List Element) → has_double s (keyed m ls) (isort keyed_cmp (keyed m rs)) ≡ has_equal (keys_of m (one_side s ls rs))
double_is side.One m ls rs = equal_isort key_of (keyed m rs) ∙ ap has_equal (keys_are m rs)
double_is side.Left m ls rs = equal_isort key_of (keyed m rs) ∙ ap has_equal (keys_are m rs)
double_is side.Right m ls rs = ap has_equal (keys_are m ls)

shared_is : (m : Matched) (ls rs : List Element) → shared_keys (keyed m ls) (isort keyed_cmp (keyed m rs)) ≡ keys_of m (filter (has_match m rs) ls)
shared_is m [] rs = refl
shared_is m (l ∷ ls) rs = one (has_key (matching_key m l.labels) (isort keyed_cmp (keyed m rs))) (has_match m rs l) (has_key_is m rs (matching_key m l.labels)) (shared_is m ls rs) where
  one : (b c : Bool) → b ≡ c → shared_keys (keyed m ls) (isort keyed_cmp (keyed m rs)) ≡ keys_of m (filter (has_match m rs) ls)
      → map key_of (cond b (keyed_of m l ∷ filter (λ x. has_key x.key (isort keyed_cmp (keyed m rs))) (keyed m ls)) (filter (λ x. has_key x.key (isort keyed_cmp (keyed m rs))) (keyed m ls)))
      ≡ keys_of m (cond c (l ∷ filter (has_match m rs) ls) (filter (has_match m rs) ls))
  one true true e h = ap (λ ks. matching_key m l.labels ∷ ks) h
  one true false e h = cc
  one false true e h = cc
  one false false e h = h

-- ---- the results

of_key : (op : BinaryOp) (m : Matched) (l : Element) (k : Pairs) (rs : List Element)
    → map (λ r. result_of op m l r.element) (with_key k (keyed m rs)) ≡ map (result_of op m l) (filter (λ r. same_labels k (matching_key m r.labels)) rs)
of_key op m l k [] = refl
of_key op m l k (r ∷ rs) = one (same_labels k (matching_key m r.labels)) (of_key op m l k rs) where
  one : (b : Bool) → map (λ x. result_of op m l x.element) (with_key k (keyed m rs)) ≡ map (result_of op m l) (filter (λ x. same_labels k (matching_key m x.labels)) rs)
      → map (λ x. result_of op m l x.element) (cond b (keyed_of m r ∷ with_key k (keyed m rs)) (with_key k (keyed m rs)))
      ≡ map (result_of op m l) (cond b (r ∷ filter (λ x. same_labels k (matching_key m x.labels)) rs) (filter (λ x. same_labels k (matching_key m x.labels)) rs))
  one true h = ap (λ js. result_of op m l r ∷ js) h
  one false h = h

results_are : (op : BinaryOp) (m : Matched) (ls rs : List Element)
    → joined (keyed_results op m (isort keyed_cmp (keyed m rs))) (keyed m ls) ≡ joined (results_of op m rs) ls
results_are op m [] rs = refl
results_are op m (l ∷ ls) rs =
    let k = matching_key m l.labels in
    ap (λ xs. map (λ r. result_of op m l r.element) xs ++ joined (keyed_results op m (isort keyed_cmp (keyed m rs))) (keyed m ls)) (with_isort key_of k (keyed m rs))
    ∙ ap (λ js. js ++ joined (keyed_results op m (isort keyed_cmp (keyed m rs))) (keyed m ls)) (of_key op m l k rs)
    ∙ ap (λ js. results_of op m rs l ++ js) (results_are op m ls rs)

pub joined_is : (op : BinaryOp) (m : Matched) (ls rs : List Element) → joined_keyed op m (keyed m ls) (isort keyed_cmp (keyed m rs)) ≡ joined_pairs op m ls rs
joined_is op m ls rs =
    let sorted = isort keyed_cmp (keyed m rs) in
    ap (λ b. cond b (Bad DoubleOnOneSide) (cond (not (is_grouping m.side) && has_equal (shared_keys (keyed m ls) sorted)) (Bad ManyToMany) (cell_of_results m.side (joined (keyed_results op m sorted) (keyed m ls)))))
    (double_is m.side m ls rs)
    ∙ ap (λ ks. cond (has_equal (keys_of m (one_side m.side ls rs))) (Bad DoubleOnOneSide) (cond (not (is_grouping m.side) && has_equal ks) (Bad ManyToMany) (cell_of_results m.side (joined (keyed_results op m sorted) (keyed m ls)))))
    (shared_is m ls rs)
    ∙ ap (λ js. cond (has_equal (keys_of m (one_side m.side ls rs))) (Bad DoubleOnOneSide) (cond (not (is_grouping m.side) && many_to_many m ls rs) (Bad ManyToMany) (cell_of_results m.side js)))
    (results_are op m ls rs)
    ∙ results_are_pairs op m ls rs
