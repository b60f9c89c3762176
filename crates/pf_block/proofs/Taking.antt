-- Rows put in one by one: which series there are then, and how often each has a sample.
use Rattle.std.proofs.Common.{◌≡◌, ℕ, zero, suc, ◌+◌, ◌<◌, ◌≤◌, ◌^◌, ℤ, pos, Bool, true, false, cond, ◌&&◌, not, is_some, Option, Some, None, List, [], ◌∷◌, ◌++◌, length, get_or, set, refl, sym, ap, ◌∙◌, subst, arith}
use Rattle.std.specs.Prelude.{int_lt, int_le, nat_eq, nat_le}
use Rattle.std.specs.List.{list_all}
use Rattle.std.specs.Cmp.{first_so, second_so}
use Rattle.std.proofs.lemmas.Int.{ints}
use Rattle.std.proofs.lemmas.Bool.Decides.{nat_tests}
use Rattle.std.proofs.lemmas.List.{length-append}
use Rattle.std.proofs.Math.ListN.{length-set}
use Rattle.pf_base.specs.declared.plain.Row.{Row}
use Rattle.pf_base.specs.declared.plain.Sample.{Sample}
use Rattle.pf_base.specs.LabelSets.{Pairs}
use Rattle.pf_block.specs.Blocks.{entries_of, labels_with, noted, noted_at, number_at, number_of_labels, same_sample, times_in}
use Rattle.pf_block.specs.Samples.{is_series, is_timed, put_sample}
use Rattle.pf_block.specs.SeriesIds.{id_of}
use Rattle.pf_block.specs.Snaps.{SnapData, IsSnap, are_new, are_timed, held_by, held_of, put_into, put_row, sample_of, samples_of, with_rows}
use Rattle.pf_block.proofs.Ids.{apart_push}
use Rattle.pf_block.proofs.Keeping.{id_within, put_snap}
use Rattle.pf_block.proofs.Merging.{once, times, times_more}
use Rattle.pf_block.proofs.Searches.{both}

right_none : (n m : ℕ) → m ≡ 0 → n ≡ n + m
right_none n m h = omega (arith, h)

zero_no : (k : ℕ) → nat_eq 0 (suc k) ≡ false
zero_no k = grind (arith, nat_tests)

suc_same : (k i : ℕ) → nat_eq (suc k) (suc i) ≡ nat_eq k i
suc_same k i = grind (arith, nat_tests)

no_zero : (k : ℕ) → nat_eq (suc k) 0 ≡ false
no_zero k = grind (arith, nat_tests)

module _ (x : Sample) where
  -- a sample put among others
  put_times : (s : Sample) (xs : List Sample) → times_in x (put_sample s xs) ≡ times_in x xs + cond (same_sample x s) 1 0
  put_times s [] = omega arith
  put_times s (y ∷ ys) =
      elim (int_lt y.time s.time) as (λ v. times_in x (cond v (y ∷ put_sample s ys) (s ∷ y ∷ ys)) ≡ times_in x (y ∷ ys) + cond (same_sample x s) 1 0) [
        | true ↦ let r = put_times s ys in omega (arith, r)
        | false ↦ omega arith
      ]

  -- in the list of all series
  set_times : (s : Sample) (xss : List (List Sample)) (i k : ℕ) → i < length xss →
      times_in x (get_or (set xss i (put_sample s (get_or xss i []))) k []) ≡ times_in x (get_or xss k []) + cond (nat_eq k i) (cond (same_sample x s) 1 0) 0
  set_times s [] i k l = absurd (omega arith)
  set_times s (xs ∷ xss) zero zero l = put_times s xs
  set_times s (xs ∷ xss) zero (suc k) l = right_none (times_in x (get_or xss k [])) (cond (nat_eq (suc k) 0) (cond (same_sample x s) 1 0) 0) (ap (λ v. cond v (cond (same_sample x s) 1 0) 0) (no_zero k))
  set_times s (xs ∷ xss) (suc i) zero l = right_none (times_in x xs) (cond (nat_eq 0 (suc i)) (cond (same_sample x s) 1 0) 0) (ap (λ v. cond v (cond (same_sample x s) 1 0) 0) (zero_no i))
  set_times s (xs ∷ xss) (suc i) (suc k) l = set_times s xss i k (omega arith) ∙ ap (λ v. times_in x (get_or xss k []) + cond v (cond (same_sample x s) 1 0) 0) (sym (suc_same k i))

  push_times : (s : Sample) (xss : List (List Sample)) (k : ℕ) → times_in x (get_or (xss ++ (s ∷ []) ∷ []) k []) ≡ times_in x (get_or xss k []) + cond (nat_eq k (length xss)) (cond (same_sample x s) 1 0) 0
  push_times s [] zero = omega arith
  push_times s [] (suc k) = right_none 0 (cond (nat_eq (suc k) 0) (cond (same_sample x s) 1 0) 0) (ap (λ v. cond v (cond (same_sample x s) 1 0) 0) (no_zero k))
  push_times s (xs ∷ xss) zero = right_none (times_in x xs) (cond (nat_eq 0 (suc (length xss))) (cond (same_sample x s) 1 0) 0) (ap (λ v. cond v (cond (same_sample x s) 1 0) 0) (zero_no (length xss)))
  push_times s (xs ∷ xss) (suc k) = push_times s xss k ∙ ap (λ v. times_in x (get_or xss k []) + cond v (cond (same_sample x s) 1 0) 0) (sym (suc_same k (length xss)))

  row_times_by : (k : ℕ) (s : SnapData) (r : Row) (o : Option ℕ) → length s.samples ≡ length s.labels → id_of r.labels s.labels ≡ o →
      times_in x (samples_of (put_into s r o) k) ≡ times_in x (samples_of s k) + once k x (number_at s.labels o, sample_of r)
  row_times_by k s r None a e =
      push_times (sample_of r) s.samples k ∙ ap (λ n. times_in x (samples_of s k) + cond (nat_eq k n) (cond (same_sample x (sample_of r)) 1 0) 0) a
  row_times_by k s r (Some i) a e =
      let l = id_within r.labels s.labels i (sym e) in
      set_times (sample_of r) s.samples i k (omega (arith, l, a))

alike_by : (s : SnapData) (r : Row) (o : Option ℕ) → length s.samples ≡ length s.labels → length ((put_into s r o).samples) ≡ length ((put_into s r o).labels)
alike_by s r None a = omega (arith, a, length-append s.samples ((sample_of r ∷ []) ∷ []), length-append s.labels (r.labels ∷ []))
alike_by s r (Some i) a = length-set s.samples i (put_sample (sample_of r) (samples_of s i)) ∙ a

labels_by : (s : SnapData) (r : Row) (o : Option ℕ) → (put_into s r o).labels ≡ noted_at s.labels r.labels o
labels_by s r None = refl
labels_by s r (Some i) = refl

row_labels : (s : SnapData) (r : Row) → (put_row s r).labels ≡ noted s.labels r.labels
row_labels s r = labels_by s r (id_of r.labels s.labels)

pub rows_labels : (s : SnapData) (rs : List Row) → (with_rows s rs).labels ≡ labels_with s.labels rs
rows_labels s [] = refl
rows_labels s (r ∷ rs) = rows_labels (put_row s r) rs ∙ ap (λ ls. labels_with ls rs) (row_labels s r)

pub rows_times : (k : ℕ) (x : Sample) (s : SnapData) (rs : List Row) → length s.samples ≡ length s.labels →
    times_in x (samples_of (with_rows s rs) k) ≡ times_in x (samples_of s k) + times k x (entries_of s.labels rs)
rows_times k x s [] a = omega arith
rows_times k x s (r ∷ rs) a =
    let t = rows_times k x (put_row s r) rs (alike_by s r (id_of r.labels s.labels) a) in
    let u : times k x (entries_of ((put_row s r).labels) rs) ≡ times k x (entries_of (noted s.labels r.labels) rs) = ap (λ ls. times k x (entries_of ls rs)) (row_labels s r) in
    let o = row_times_by x k s r (id_of r.labels s.labels) a refl in
    let m = times_more k x (number_of_labels s.labels r.labels, sample_of r) (entries_of (noted s.labels r.labels) rs) in
    omega (arith, t, u, o, m)

-- ---- no series goes

noted_length : (labels : List Pairs) (l : Pairs) (o : Option ℕ) → length labels ≤ length (noted_at labels l o)
noted_length labels l None = omega (arith, length-append labels (l ∷ []))
noted_length labels l (Some i) = omega arith

pub labels_length : (labels : List Pairs) (rs : List Row) → length labels ≤ length (labels_with labels rs)
labels_length labels [] = omega arith
labels_length labels (r ∷ rs) =
    let a = noted_length labels r.labels (id_of r.labels labels) in
    let b = labels_length (noted labels r.labels) rs in
    omega (arith, a, b)

-- ---- a snapshot stays one

module _ {X : Type 0} (p : X → Bool) where
  all_push : (xs : List X) (y : X) → list_all p xs ≡ true → p y ≡ true → list_all p (xs ++ y ∷ []) ≡ true
  all_push [] y h k = both (p y) true k refl
  all_push (x ∷ xs) y h k = both (p x) (list_all p (xs ++ y ∷ [])) (first_so (p x) (list_all p xs) h) (all_push xs y (second_so (p x) (list_all p xs) h) k)

row_timed : (n : ℕ) → nat_le n 4398046511103 ≡ true → (int_le (pos 0) (pos n) && int_le (pos n) (pos 4398046511103)) ≡ true
row_timed n h = grind (arith, ints, nat_tests)

one_series : (s : Sample) → is_timed s ≡ true → is_series (s ∷ []) ≡ true
one_series s h = both (is_timed s) true h refl

not_held : (b : Bool) (o : Option ℤ) → (not (is_some o) && b) ≡ true → is_some o ≡ false
not_held b None h = refl
not_held b (Some z) h = cc

row_snap : (s : SnapData) (r : Row) (o : Option ℕ) → IsSnap s → id_of r.labels s.labels ≡ o → is_some (held_by s o r.time) ≡ false → nat_le r.time 4398046511103 ≡ true → length ((put_into s r o).labels) < 2 ^ 32 → IsSnap (put_into s r o)
row_snap s r None h e n t f = record {
  apart = apart_push s.labels r.labels h.apart e;
  alike = alike_by s r None h.alike;
  lawful = all_push is_series s.samples (sample_of r ∷ []) h.lawful (one_series (sample_of r) (row_timed r.time t));
  few = f;
}
row_snap s r (Some i) h e n t f =
    put_snap s i (sample_of r) (set s.samples i (put_sample (sample_of r) (samples_of s i))) refl h (id_within r.labels s.labels i (sym e)) n (row_timed r.time t)

pub rows_snap : (s : SnapData) (rs : List Row) → IsSnap s → are_new s rs ≡ true → are_timed rs ≡ true → length (labels_with s.labels rs) < 2 ^ 32 → IsSnap (with_rows s rs)
rows_snap s [] h n t f = h
rows_snap s (r ∷ rs) h n t f =
    let ls = row_labels s r in
    let w : length (labels_with ((put_row s r).labels) rs) < 2 ^ 32 = subst (λ l. length (labels_with l rs) < 2 ^ 32) (sym ls) f in
    let g : length ((put_row s r).labels) < 2 ^ 32 = let a = labels_length ((put_row s r).labels) rs in omega (arith, a, w) in
    let held = held_of s r.labels r.time in
    let rest = are_new (put_row s r) rs in
    let timed = nat_le r.time 4398046511103 in
    rows_snap (put_row s r) rs
    (row_snap s r (id_of r.labels s.labels) h refl (not_held rest held n) (first_so timed (are_timed rs) t) g)
    (second_so (not (is_some held)) rest n) (second_so timed (are_timed rs) t) w
