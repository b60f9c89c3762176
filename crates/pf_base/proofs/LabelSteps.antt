-- Walks along the pairs of a label set, place by place.
use Rattle.std.proofs.Common.{◌≡◌, ℕ, zero, suc, ◌+◌, ◌-◌, ◌≤◌, ◌<◌, Bool, true, false, cond, List, [], ◌∷◌, ◌++◌, length, take, drop, refl, sym, ap, ◌∙◌, arith, append_assoc, min}
use Rattle.std.specs.Prelude.{slice_range}
use Rattle.std.specs.List.{filter}
use Rattle.std.specs.Ordering.{nat_cmp, ordering_then}
use Rattle.std.proofs.lemmas.Bool.Decides.{nat_tests}
use Rattle.std.proofs.lemmas.List.{drop_more, take_all}
use Rattle.pf_base.specs.LabelSets.{Pairs, name_at, value_at}
use Rattle.pf_base.specs.LabelOrder.{pair_cmp, labels_cmp}
use Rattle.pf_base.proofs.LabelFacts.{shorter}

abbrev pub pair_at : Pairs → ℕ → List ℕ × List ℕ
pair_at ps i = (name_at ps i, value_at ps i)

pub next_pair : (ps : Pairs) (i : ℕ) → i < length ps → drop i ps ≡ pair_at ps i ∷ drop (i + 1) ps
next_pair ps i l = drop_more ps i ([], []) l

-- ---- order

pub order_more : (x y : Pairs) (i : ℕ) → i < length x → i < length y
    → labels_cmp (drop i x) (drop i y) ≡ ordering_then (pair_cmp (pair_at x i) (pair_at y i)) (labels_cmp (drop (i + 1) x) (drop (i + 1) y))
order_more x y i l m = λ j. labels_cmp (next_pair x i l j) (next_pair y i m j)

order_suc : (m n : ℕ) → nat_cmp (suc m) (suc n) ≡ nat_cmp m n
order_suc m n = grind (arith, nat_tests)

pub order_end : (x y : Pairs) (i : ℕ) → i ≡ min (length x) (length y) → labels_cmp (drop i x) (drop i y) ≡ nat_cmp (length x) (length y)
order_end [] [] zero e = refl
order_end [] [] (suc k) e = absurd (omega arith)
order_end [] (q ∷ ys) zero e = grind (arith, nat_tests)
order_end [] (q ∷ ys) (suc k) e = absurd (omega arith)
order_end (p ∷ xs) [] zero e = grind (arith, nat_tests)
order_end (p ∷ xs) [] (suc k) e = absurd (omega arith)
order_end (p ∷ xs) (q ∷ ys) zero e = absurd (omega arith)
order_end (p ∷ xs) (q ∷ ys) (suc k) e = order_end xs ys k (omega arith) ∙ sym (order_suc (length xs) (length ys))

pub whole_range : (ps : Pairs) (n : ℕ) → n ≡ length ps → slice_range ps 0 n ≡ ps
whole_range ps n e = take_all (n - 0) ps (omega arith)

-- ---- filters

module _ (keep : List ℕ → Bool) where
  abbrev chosen : List ℕ × List ℕ → Bool
  chosen p = keep p.0

  range_more : (ps : Pairs) (i e : ℕ) → i < e → e ≤ length ps → slice_range ps i e ≡ pair_at ps i ∷ slice_range ps (i + 1) e
  range_more ps i e l m =
      let n : e - i ≡ suc (e - (i + 1)) = omega arith in
      let k : i < length ps = omega arith in λ j. take (n j) (next_pair ps i k j)

  pub chosen_more : (ps found : Pairs) (i e : ℕ) → i < e → e ≤ length ps → keep (name_at ps i) ≡ true
      → (found ++ pair_at ps i ∷ []) ++ filter chosen (slice_range ps (i + 1) e) ≡ found ++ filter chosen (slice_range ps i e)
  chosen_more ps found i e l m k =
      append_assoc found (pair_at ps i ∷ []) (filter chosen (slice_range ps (i + 1) e))
      ∙ ap (λ r. found ++ r) (sym (ap (filter chosen) (range_more ps i e l m) ∙ ap (λ b. cond b (pair_at ps i ∷ filter chosen (slice_range ps (i + 1) e)) (filter chosen (slice_range ps (i + 1) e))) k))

  pub left_more : (ps found : Pairs) (i e : ℕ) → i < e → e ≤ length ps → keep (name_at ps i) ≡ false
      → found ++ filter chosen (slice_range ps (i + 1) e) ≡ found ++ filter chosen (slice_range ps i e)
  left_more ps found i e l m k =
      ap (λ r. found ++ r) (sym (ap (filter chosen) (range_more ps i e l m) ∙ ap (λ b. cond b (pair_at ps i ∷ filter chosen (slice_range ps (i + 1) e)) (filter chosen (slice_range ps (i + 1) e))) k))

  -- a turn of the walk that adds what chosen to those found
  pub chosen_step : (ps found next all : Pairs) (i e : ℕ) (name value : List ℕ) → i < e → e ≤ length ps → name ≡ name_at ps i → value ≡ value_at ps i → keep (name_at ps i) ≡ true
      → next ≡ found ++ (name, value) ∷ [] → found ++ filter chosen (slice_range ps i e) ≡ all → next ++ filter chosen (slice_range ps (i + 1) e) ≡ all
  chosen_step ps found next all i e name value l m p q k n t =
      ap (λ r. r ++ filter chosen (slice_range ps (i + 1) e)) (n ∙ (λ j. found ++ (p j, q j) ∷ [])) ∙ chosen_more ps found i e l m k ∙ t

  pub left_step : (ps found next all : Pairs) (i e : ℕ) → i < e → e ≤ length ps → keep (name_at ps i) ≡ false
      → next ≡ found → found ++ filter chosen (slice_range ps i e) ≡ all → next ++ filter chosen (slice_range ps (i + 1) e) ≡ all
  left_step ps found next all i e l m k n t = ap (λ r. r ++ filter chosen (slice_range ps (i + 1) e)) n ∙ left_more ps found i e l m k ∙ t

  pub counts_more : (ps : Pairs) (i : ℕ) → i < length ps → keep (name_at ps i) ≡ true → length (filter chosen (drop i ps)) ≡ suc (length (filter chosen (drop (i + 1) ps)))
  counts_more ps i l k =
      ap (λ r. length (filter chosen r)) (next_pair ps i l) ∙ ap (λ b. length (cond b (pair_at ps i ∷ filter chosen (drop (i + 1) ps)) (filter chosen (drop (i + 1) ps)))) k

  pub counts_same : (ps : Pairs) (i : ℕ) → i < length ps → keep (name_at ps i) ≡ false → length (filter chosen (drop i ps)) ≡ length (filter chosen (drop (i + 1) ps))
  counts_same ps i l k =
      ap (λ r. length (filter chosen r)) (next_pair ps i l) ∙ ap (λ b. length (cond b (pair_at ps i ∷ filter chosen (drop (i + 1) ps)) (filter chosen (drop (i + 1) ps)))) k

  pub no_more_than : (ps : Pairs) → length (filter chosen ps) ≤ length ps
  no_more_than ps = shorter chosen ps

  all_by : (p : List ℕ × List ℕ) (ps : Pairs) (b : Bool) → (length (filter chosen ps) ≡ length ps → filter chosen ps ≡ ps)
      → length (cond b (p ∷ filter chosen ps) (filter chosen ps)) ≡ suc (length ps) → cond b (p ∷ filter chosen ps) (filter chosen ps) ≡ p ∷ ps
  all_by p ps true f e = ap (λ l. p ∷ l) (f (omega arith))
  all_by p ps false f e = let n = no_more_than ps in absurd (omega arith)

  -- where as many are chosen as there are, all are chosen
  pub all_chosen : (ps : Pairs) → length (filter chosen ps) ≡ length ps → filter chosen ps ≡ ps
  all_chosen [] e = refl
  all_chosen (p ∷ ps) e = all_by p ps (chosen p) (all_chosen ps) e

  -- no pairs, and those chosen of the pairs seen
  pub chosen_are : (ps found empty seen : Pairs) (n : ℕ) → found ≡ empty ++ filter chosen (slice_range seen 0 n) → empty ≡ [] → seen ≡ ps → n ≡ length ps → found ≡ filter chosen ps
  chosen_are ps found empty seen n e none s l =
      e ∙ (λ i. none i ++ filter chosen (slice_range (s i) 0 n)) ∙ ap (filter chosen) (whole_range ps n l)
