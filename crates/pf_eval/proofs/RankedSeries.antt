-- The places of groups are places of series, whose columns have labels of their own.
use Rattle.std.proofs.Common.{◌≡◌, ◌<◌, ◌≤◌, ◌+◌, ℕ, Bool, true, false, cond, nat_eq, List, [], ◌∷◌, map, length, get_or, Vec, Global, refl, subst, sym, ap, ◌∙◌, arith}
use Rattle.std.specs.List.{All}
use Rattle.std.proofs.lemmas.List.{get_or-map, length-map}
use Rattle.std.proofs.lemmas.List.Elements.{All-nil, All-cons}
use Rattle.pf_block.specs.Snaps.{SnapData}
use Rattle.pf_columns.specs.Columns.{ColumnData, columns_labels}
use Rattle.pf_columns.specs.Ranks.{bare, buckets_by, labelled, places_of}
use Rattle.pf_columns.proofs.Below.{in_below, length_below}
use Rattle.pf_selectors.specs.declared.times.Times.{Times}
use Rattle.pf_eval.specs.Ranked.{bare_at, column_at, labels_at}

within_by : (n i : ℕ) (ps : List ℕ) (b : Bool) → i < n → All (λ p. p < n) ps → All (λ p. p < n) (cond b (i ∷ ps) ps)
within_by n i ps true h a = All-cons (λ p. p < n) i ps h a
within_by n i ps false h a = a

places_within : (n g i : ℕ) (os : List ℕ) → i + length os ≤ n → All (λ p. p < n) (places_of g i os)
places_within n g i [] h = All-nil (λ p. p < n)
places_within n g i (o ∷ os) h = within_by n i (places_of g (i + 1) os) (nat_eq o g) (omega (arith, h)) (places_within n g (i + 1) os (omega (arith, h)))

abbrev pub bucket : Vec ℕ Global → List ℕ
bucket b = b.items

pub buckets_within : (os : List ℕ) (m n : ℕ) (bs : List (Vec ℕ Global)) → length os ≡ n → map bucket bs ≡ buckets_by os m → All (λ b. All (λ p. p < n) (bucket b)) bs
buckets_within os m n bs e is = λ g d h.
    let many : length bs ≡ m = sym (length-map bs bucket) ∙ ap length is ∙ length_below (λ j. places_of j 0 os) m in
    let item : bucket (get_or bs g d) ≡ places_of g 0 os =
    sym (get_or-map bucket bs g d [] h) ∙ ap (λ xs. get_or xs g []) is ∙ in_below (λ j. places_of j 0 os) m g [] (subst (λ j. g < j) many h) in
    subst (All (λ p. p < n)) (sym item) (places_within n g 0 os (omega (arith, e)))

module _ (s : SnapData) (times : Times) (ids : List ℕ) where
  pub labels_placed : (ps : List ℕ) → map (labels_at s ids) ps ≡ columns_labels (map (column_at s times ids) ps)
  labels_placed [] = refl
  labels_placed (p ∷ ps) = ap (λ ls. labels_at s ids p ∷ ls) (labels_placed ps)

  pub bare_placed : (ps : List ℕ) → map (bare_at s times ids) ps ≡ map bare (map (column_at s times ids) ps)
  bare_placed [] = refl
  bare_placed (p ∷ ps) = ap (λ cs. bare_at s times ids p ∷ cs) (bare_placed ps)

pub labelled_none : (cs : List ColumnData) → labelled [] cs ≡ []
labelled_none [] = refl
labelled_none (c ∷ cs) = refl
