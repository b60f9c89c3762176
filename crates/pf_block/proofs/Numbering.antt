-- Rows with the ids of their series, one by one.
use Rattle.std.proofs.Common.{◌≡◌, ℕ, zero, suc, ◌+◌, ◌-◌, ◌<◌, ℤ, true, List, [], ◌∷◌, ◌++◌, length, map, take, drop, get_or, refl, sym, ap, ◌∙◌, subst, Some, None, append_assoc, arith}
use Rattle.std.proofs.lemmas.List.{length-append, length-drop, take_all}
use Rattle.std.specs.Prelude.{nat_le}
use Rattle.std.specs.Cmp.{first_so, second_so}
use Rattle.pf_base.specs.declared.plain.Row.{Row}
use Rattle.pf_base.specs.LabelSets.{Pairs}
use Rattle.pf_block.specs.Blocks.{Entries, entries_of, entry_of, labels_with, noted, noted_at, number_at, number_of_labels}
use Rattle.pf_block.specs.IndexStacks.{AreBehind}
use Rattle.pf_block.specs.SeriesIds.{id_of}
use Rattle.pf_block.specs.Snaps.{are_apart, are_timed, sample_of}
use Rattle.pf_block.proofs.Ids.{apart_push}
use Rattle.pf_block.proofs.Joining.{id_left, id_none, id_right}
use Rattle.pf_block.proofs.Pairing.{drop_at}
use Rattle.pf_block.proofs.Searches.{both}

map_push : (ks : List (ℕ × (ℤ × ℤ))) (k : ℕ × (ℤ × ℤ)) → map entry_of (ks ++ k ∷ []) ≡ map entry_of ks ++ entry_of k ∷ []
map_push [] k = refl
map_push (x ∷ ks) k = ap (λ l. entry_of x ∷ l) (map_push ks k)

pub drop_none : (rows : List Row) → drop (length rows) rows ≡ []
drop_none [] = refl
drop_none (r ∷ rs) = drop_none rs

module _ (rows : List Row) (k : ℕ) (r : Row) (l : k < length rows) (h : r ≡ get_or rows k r) where
  pub row_is : drop k rows ≡ r ∷ drop (suc k) rows
  row_is = drop_at k rows r l ∙ ap (λ x. x ∷ drop (suc k) rows) (sym h)

  pub row_timed : are_timed (drop k rows) ≡ true → nat_le r.time 4398046511103 ≡ true
  row_timed t = first_so (nat_le r.time 4398046511103) (are_timed (drop (suc k) rows)) (subst (λ x. are_timed x ≡ true) row_is t)

  pub rest_timed : are_timed (drop k rows) ≡ true → are_timed (drop (suc k) rows) ≡ true
  rest_timed t = second_so (nat_le r.time 4398046511103) (are_timed (drop (suc k) rows)) (subst (λ x. are_timed x ≡ true) row_is t)

  module _ (labels : List Pairs) (ks new : List (ℕ × (ℤ × ℤ))) (e : ℕ × (ℤ × ℤ)) (p : new ≡ ks ++ e ∷ []) (q : entry_of e ≡ (number_of_labels labels r.labels, sample_of r)) where
    pub entries_next : (whole : Entries) → map entry_of ks ++ entries_of labels (drop k rows) ≡ whole → map entry_of new ++ entries_of (noted labels r.labels) (drop (suc k) rows) ≡ whole
    entries_next whole w =
        ap (λ x. map entry_of x ++ entries_of (noted labels r.labels) (drop (suc k) rows)) p
        ∙ ap (λ x. x ++ entries_of (noted labels r.labels) (drop (suc k) rows)) (map_push ks e)
        ∙ append_assoc (map entry_of ks) (entry_of e ∷ []) (entries_of (noted labels r.labels) (drop (suc k) rows))
        ∙ ap (λ x. map entry_of ks ++ x ∷ entries_of (noted labels r.labels) (drop (suc k) rows)) q
        ∙ ap (λ x. map entry_of ks ++ entries_of labels x) (sym row_is) ∙ w

  pub labels_next : (labels whole : List Pairs) → labels_with labels (drop k rows) ≡ whole → labels_with (noted labels r.labels) (drop (suc k) rows) ≡ whole
  labels_next labels whole w = ap (labels_with labels) (sym row_is) ∙ w

pub known_id : (labels : List Pairs) (l : Pairs) (id : ℕ) → Some id ≡ id_of l labels → number_of_labels labels l ≡ id
known_id labels l id h = ap (number_at labels) (sym h)

pub known_labels : (labels : List Pairs) (l : Pairs) (id : ℕ) → Some id ≡ id_of l labels → noted labels l ≡ labels
known_labels labels l id h = ap (noted_at labels l) (sym h)

pub new_id : (labels : List Pairs) (l : Pairs) → id_of l labels ≡ None → number_of_labels labels l ≡ length labels
new_id labels l h = ap (number_at labels) h

pub new_labels : (labels : List Pairs) (l : Pairs) → id_of l labels ≡ None → noted labels l ≡ labels ++ l ∷ []
new_labels labels l h = ap (noted_at labels l) h

take_timed : (n : ℕ) (rows : List Row) → are_timed rows ≡ true → are_timed (take n rows) ≡ true
take_timed zero rows h = refl
take_timed (suc n) [] h = refl
take_timed (suc n) (r ∷ rs) h =
    both (nat_le r.time 4398046511103) (are_timed (take n rs)) (first_so (nat_le r.time 4398046511103) (are_timed rs) h) (take_timed n rs (second_so (nat_le r.time 4398046511103) (are_timed rs) h))

drop_timed : (n : ℕ) (rows : List Row) → are_timed rows ≡ true → are_timed (drop n rows) ≡ true
drop_timed zero rows h = h
drop_timed (suc n) [] h = refl
drop_timed (suc n) (r ∷ rs) h = drop_timed n rs (second_so (nat_le r.time 4398046511103) (are_timed rs) h)

pub part_timed : (m n : ℕ) (rows : List Row) → are_timed rows ≡ true → are_timed (take n (drop m rows)) ≡ true
part_timed m n rows h = take_timed n (drop m rows) (drop_timed m rows h)

-- the rows behind those that are known
pub behind_known : (rows : List Row) (n : ℕ) → take (length rows - n) (drop n rows) ≡ drop n rows
behind_known rows n = take_all (length rows - n) (drop n rows) (omega (arith, length-drop n rows))

-- a series that may be among known ones, or among the new ones behind them
module _ (index new : List Pairs) (l : Pairs) where
  pub first_labels : (id : ℕ) → Some id ≡ id_of l index → index ++ new ≡ noted (index ++ new) l
  first_labels id h = sym (known_labels (index ++ new) l id (sym (id_left l index new id h)))

  pub first_id : (id : ℕ) → Some id ≡ id_of l index → id ≡ number_of_labels (index ++ new) l
  first_id id h = sym (known_id (index ++ new) l id (sym (id_left l index new id h)))

  pub next_labels : (id : ℕ) → id_of l index ≡ None → Some id ≡ id_of l new → index ++ new ≡ noted (index ++ new) l
  next_labels id h g = sym (known_labels (index ++ new) l (length index + id) (sym (id_right l index new id h g)))

  pub next_id : (id n : ℕ) → id_of l index ≡ None → Some id ≡ id_of l new → n ≡ length index + id → n ≡ number_of_labels (index ++ new) l
  next_id id n h g e = e ∙ sym (known_id (index ++ new) l (length index + id) (sym (id_right l index new id h g)))

  module _ (more : List Pairs) (h : id_of l index ≡ None) (g : id_of l new ≡ None) (e : more ≡ new ++ l ∷ []) where
    none : id_of l (index ++ new) ≡ None
    none = id_none l index new h g

    more_is : index ++ more ≡ (index ++ new) ++ l ∷ []
    more_is = ap (λ x. index ++ x) e ∙ sym (append_assoc index new (l ∷ []))

    pub more_labels : index ++ more ≡ noted (index ++ new) l
    more_labels = more_is ∙ sym (new_labels (index ++ new) l none)

    pub more_id : (n : ℕ) → n ≡ length index + length new → n ≡ number_of_labels (index ++ new) l
    more_id n k = k ∙ sym (length-append index new) ∙ sym (new_id (index ++ new) l none)

    pub more_behind : AreBehind index new → length index + length new < 4294967295 → AreBehind index more
    more_behind b k = record {
      apart = subst (λ x. are_apart x ≡ true) (sym more_is) (apart_push (index ++ new) l b.apart none);
      few =
          let n : length (index ++ more) ≡ length ((index ++ new) ++ l ∷ []) = ap length more_is in
          let m = length-append (index ++ new) (l ∷ []) in
          let j = length-append index new in
          omega (arith, n, m, j, k);
    }
