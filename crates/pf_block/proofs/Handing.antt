-- Rows with the ids of their series, which are handed on.
use Rattle.std.proofs.Common.{◌≡◌, ℕ, zero, suc, ◌+◌, ◌-◌, ◌<◌, ◌≤◌, pos, true, Option, Some, None, List, [], ◌∷◌, ◌++◌, length, take, drop, get_or, refl, sym, ap, ◌∙◌, append_assoc, arith}
use Rattle.std.proofs.lemmas.List.{get_or_default, length-append}
use Rattle.pf_base.specs.declared.plain.Row.{Row}
use Rattle.pf_base.specs.declared.plain.Sample.{Sample}
use Rattle.pf_base.specs.LabelSets.{Pairs}
use Rattle.pf_block.specs.Blocks.{ascends, entries_of, entries_with, labels_with, noted, noted_at, number_at, number_of_labels, row_ids}
use Rattle.pf_block.specs.SeriesIds.{id_of}
use Rattle.pf_block.specs.Snaps.{are_apart, sample_of}
use Rattle.pf_block.proofs.Ids.{apart_at, apart_push}
use Rattle.pf_block.proofs.Keeping.{id_within}
use Rattle.pf_block.proofs.Pairing.{drop_at}

-- ---- the ids of rows

pub ids_length : (labels : List Pairs) (rs : List Row) → length (row_ids labels rs) ≡ length rs
ids_length labels [] = refl
ids_length labels (r ∷ rs) = ap suc (ids_length (noted labels r.labels) rs)

pub alike_ids : (ids : List ℕ) (labels : List Pairs) (rs : List Row) → ids ≡ row_ids labels rs → length ids ≡ length rs
alike_ids ids labels rs h = ap length h ∙ ids_length labels rs

pub entries_are : (labels : List Pairs) (rs : List Row) → entries_with (row_ids labels rs) rs ≡ entries_of labels rs
entries_are labels [] = refl
entries_are labels (r ∷ rs) = ap (λ l. (number_of_labels labels r.labels, sample_of r) ∷ l) (entries_are (noted labels r.labels) rs)

noted_apart_by : (labels : List Pairs) (l : Pairs) (o : Option ℕ) → id_of l labels ≡ o → are_apart labels ≡ true → are_apart (noted_at labels l o) ≡ true
noted_apart_by labels l None e h = apart_push labels l h e
noted_apart_by labels l (Some i) e h = h

pub labels_apart : (labels : List Pairs) (rs : List Row) → are_apart labels ≡ true → are_apart (labels_with labels rs) ≡ true
labels_apart labels [] h = h
labels_apart labels (r ∷ rs) h = labels_apart (noted labels r.labels) rs (noted_apart_by labels r.labels (id_of r.labels labels) refl h)

-- ---- the labels of new series

-- the next id is that of a new series alone
new_by : (labels : List Pairs) (l : Pairs) (o : Option ℕ) → id_of l labels ≡ o → number_at labels o ≡ length labels → noted_at labels l o ≡ labels ++ l ∷ []
new_by labels l None e h = refl
new_by labels l (Some i) e h = absurd (let w = id_within l labels i (sym e) in omega (arith, w, h))

old_by : (labels : List Pairs) (l : Pairs) (o : Option ℕ) → (number_at labels o ≡ length labels → ⊥) → noted_at labels l o ≡ labels
old_by labels l None h = absurd (h refl)
old_by labels l (Some i) h = refl

head_is : (x y : ℕ) (xs ys : List ℕ) → x ∷ xs ≡ y ∷ ys → x ≡ y
head_is x y xs ys h = cc

tail_is : (x y : ℕ) (xs ys : List ℕ) → x ∷ xs ≡ y ∷ ys → xs ≡ ys
tail_is x y xs ys h = cc

pub no_row : Row
no_row = record { labels = []; time = 0; value = pos 0 }

module _ (known new : List Pairs) (rows : List Row) (ids : List ℕ) (k : ℕ) (l : k < length rows) (a : ids ≡ row_ids known rows) (w : row_ids (known ++ new) (drop k rows) ≡ drop k ids) where
  pub id_there : k < length ids
  id_there = omega (arith, l, alike_ids ids known rows a)

  abbrev pub row : Row
  row = get_or rows k no_row

  both_at : number_of_labels (known ++ new) row.labels ∷ row_ids (noted (known ++ new) row.labels) (drop (suc k) rows) ≡ get_or ids k 0 ∷ drop (suc k) ids
  both_at = ap (row_ids (known ++ new)) (sym (drop_at k rows no_row l)) ∙ w ∙ drop_at k ids 0 id_there

  id_is : number_of_labels (known ++ new) row.labels ≡ get_or ids k 0
  id_is = head_is (number_of_labels (known ++ new) row.labels) (get_or ids k 0) (row_ids (noted (known ++ new) row.labels) (drop (suc k) rows)) (drop (suc k) ids) both_at

  pub met : (more : List Pairs) (next : ℕ) (r : Row) → r ≡ get_or rows k r → next ≡ length (known ++ new) → get_or ids k 0 ≡ next → more ≡ new ++ r.labels ∷ [] → noted (known ++ new) row.labels ≡ known ++ more
  met more next r p n e q =
      new_by (known ++ new) row.labels (id_of row.labels (known ++ new)) refl (id_is ∙ e ∙ n)
      ∙ append_assoc known new (row.labels ∷ [])
      ∙ ap (λ x. known ++ (new ++ x.labels ∷ [])) (sym (p ∙ get_or_default rows k r no_row l))
      ∙ ap (λ x. known ++ x) (sym q)

  pub passed : (next : ℕ) → next ≡ length (known ++ new) → (get_or ids k 0 ≡ next → ⊥) → noted (known ++ new) row.labels ≡ known ++ new
  passed next n e = old_by (known ++ new) row.labels (id_of row.labels (known ++ new)) (λ h. e (sym id_is ∙ h ∙ sym n))

  pub ids_kept : (more : List Pairs) (j : ℕ) → noted (known ++ new) row.labels ≡ known ++ more → j ≡ k + 1 → row_ids (known ++ more) (drop j rows) ≡ drop j ids
  ids_kept more j m p =
      let q : j ≡ suc k = omega (arith, p) in
      ap (λ n. row_ids (known ++ more) (drop n rows)) q ∙ ap (λ x. row_ids x (drop (suc k) rows)) (sym m)
      ∙ tail_is (number_of_labels (known ++ new) row.labels) (get_or ids k 0) (row_ids (noted (known ++ new) row.labels) (drop (suc k) rows)) (drop (suc k) ids) both_at
      ∙ ap (λ n. drop n ids) (sym q)

  pub labels_kept : (more whole : List Pairs) (j : ℕ) → noted (known ++ new) row.labels ≡ known ++ more → j ≡ k + 1 → labels_with (known ++ new) (drop k rows) ≡ whole → labels_with (known ++ more) (drop j rows) ≡ whole
  labels_kept more whole j m p h =
      let q : j ≡ suc k = omega (arith, p) in
      ap (λ n. labels_with (known ++ more) (drop n rows)) q ∙ ap (λ x. labels_with x (drop (suc k) rows)) (sym m) ∙ ap (labels_with (known ++ new)) (sym (drop_at k rows no_row l)) ∙ h

-- ---- rows that ascend

pub with_at : (rows : List Row) (ids : List ℕ) (k : ℕ) (r : Row) (d : ℕ) → k < length rows → length ids ≡ length rows → r ≡ get_or rows k r →
    entries_with (drop k ids) (drop k rows) ≡ (get_or ids k d, sample_of r) ∷ entries_with (drop (suc k) ids) (drop (suc k) rows)
with_at rows ids k r d l a h =
    let m : k < length ids = omega (arith, l, a) in
    (λ i. entries_with (drop_at k ids d m i) (drop_at k rows r l i)) ∙ ap (λ x. (get_or ids k d, sample_of x) ∷ entries_with (drop (suc k) ids) (drop (suc k) rows)) (sym h)

pub with_next : (rows : List Row) (ids : List ℕ) (k d : ℕ) (r : Row) (s : Sample) → k < length rows → length ids ≡ length rows → r ≡ get_or rows k r → s ≡ sample_of r →
    entries_with (drop k ids) (drop k rows) ≡ (get_or ids k d, s) ∷ entries_with (drop (k + 1) ids) (drop (k + 1) rows)
with_next rows ids k d r s l a h e =
    let q : suc k ≡ k + 1 = omega arith in
    with_at rows ids k r d l a h ∙ (λ i. (get_or ids k d, sym e i) ∷ entries_with (drop (q i) ids) (drop (q i) rows))

-- one row or none ascends
pub few_ascend : (rows : List Row) (ids : List ℕ) (i : ℕ) → 0 < i → length rows ≤ i → ascends (entries_with (drop (i - 1) ids) (drop (i - 1) rows)) ≡ true
few_ascend rows ids zero z l = absurd (omega arith)
few_ascend rows ids (suc k) z l = let e : suc k - 1 ≡ k = omega arith in rw e (by k rows ids l)
  where
    one : (is : List ℕ) (r : Row) → ascends (entries_with is (r ∷ [])) ≡ true
    one [] r = refl
    one (i ∷ []) r = refl
    one (i ∷ j ∷ is) r = refl

    none : (k : ℕ) (is : List ℕ) → ascends (entries_with is (drop k [])) ≡ true
    none zero [] = refl
    none zero (i ∷ is) = refl
    none (suc k) [] = refl
    none (suc k) (i ∷ is) = refl

    by : (k : ℕ) (rows : List Row) (ids : List ℕ) → length rows ≤ suc k → ascends (entries_with (drop k ids) (drop k rows)) ≡ true
    by k [] ids l = none k (drop k ids)
    by zero (r ∷ []) ids l = one ids r
    by zero (r ∷ s ∷ rs) ids l = absurd (omega arith)
    by (suc k) (r ∷ rs) [] l = refl
    by (suc k) (r ∷ rs) (i ∷ ids) l = by k rs ids (omega arith)

-- ---- further series at the end

front_at : (ls ms : List Pairs) (k j : ℕ) (d : Pairs) → j ≡ length ls + k → get_or (ls ++ ms) j d ≡ get_or ms k d
front_at [] ms k j d h = ap (λ n. get_or ms n d) (let q : j ≡ k = omega (arith, h) in q)
front_at (l ∷ ls) ms k zero d h = absurd (omega (arith, h))
front_at (l ∷ ls) ms k (suc j) d h = front_at ls ms k j d (omega (arith, h))

take_front : (ls ms : List Pairs) (k j : ℕ) → j ≡ length ls + k → take j (ls ++ ms) ≡ ls ++ take k ms
take_front [] ms k j h = ap (λ n. take n ms) (let q : j ≡ k = omega (arith, h) in q)
take_front (l ∷ ls) ms k zero h = absurd (omega (arith, h))
take_front (l ∷ ls) ms k (suc j) h = ap (λ x. l ∷ x) (take_front ls ms k j (omega (arith, h)))

pub next_apart : (ls ms now : List Pairs) (k : ℕ) (d : Pairs) → now ≡ ls ++ take k ms → are_apart (ls ++ ms) ≡ true → k < length ms → id_of (get_or ms k d) now ≡ None
next_apart ls ms now k d e h l =
    (λ i. id_of (sym (front_at ls ms k (length ls + k) d refl) i) ((e ∙ sym (take_front ls ms k (length ls + k) refl)) i))
    ∙ apart_at (length ls + k) d (ls ++ ms) h (omega (arith, l, length-append ls ms))
