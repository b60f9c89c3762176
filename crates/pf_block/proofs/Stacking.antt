-- A snapshot's samples, where a further block is put on its blocks, and where samples are cut out of them.
use Rattle.std.proofs.Common.{◌≡◌, ℕ, zero, suc, ◌+◌, ◌<◌, ◌≤◌, ◌^◌, ℤ, pos, Bool, true, false, cond, ◌&&◌, List, [], ◌∷◌, ◌++◌, length, map, take, drop, get_or, min, refl, sym, ap, ◌∙◌, subst, arith, Option}
use Rattle.std.specs.Prelude.{int_le, nat_eq, nat_le, nat_lt}
use Rattle.std.specs.List.{list_all, list_any, filter}
use Rattle.std.specs.Cmp.{first_so, second_so}
use Rattle.std.proofs.lemmas.Bool.Decides.{nat_tests}
use Rattle.pf_base.specs.declared.plain.Row.{Row}
use Rattle.pf_base.specs.declared.plain.Sample.{Sample}
use Rattle.pf_base.specs.LabelSets.{Pairs}
use Rattle.pf_block.specs.Blocks.{Entries, ascends, entries_of, labels_with, samples_in, same_sample, times_in}
use Rattle.pf_block.specs.Layers.{cut_by}
use Rattle.pf_block.specs.Samples.{is_outside, is_series, last_of, rises, window_of}
use Rattle.pf_block.specs.Snaps.{SnapData, IsSnap, are_new, are_timed, cut_from, samples_of, with_rows, without_rows}
use Rattle.pf_block.specs.declared.stack.Order.{Order}
use Rattle.pf_block.specs.Stacks.{IsCut, IsKept, IsOrdered, IsPut, IsStacked, covers, doubles, is_clear, is_not_after, joined_in, merged_into, series_from, series_in, snap_of, topped, total}
use Rattle.pf_block.proofs.Canonical.{all_not_after, goes, goes_on, one_list, rises_apart, rises_goes, same_is, series_goes}
use Rattle.pf_block.proofs.Keeping.{all_at, cut_snap}
use Rattle.pf_block.proofs.Layering.{cut_ascends, cut_in, cut_shorter, spared_of}
use Rattle.pf_block.proofs.Merging.{merged_times, merged_ascends, times, times_append, times_more}
use Rattle.pf_block.proofs.MergedSamples.{filter_times}
use Rattle.pf_block.proofs.Searches.{both, cut_same, rises_filter, series_rises, series_timed}
use Rattle.pf_block.proofs.Series.{all_go, drop_all, front_less, joined_append, joined_split, parts_times, series_times, take_all, take_front, take_less, take_times}
use Rattle.pf_block.proofs.Taking.{rows_labels, rows_snap, rows_times}

-- ---- the samples of a series, block by block

append_none : {X : Type 0} (xs : List X) → xs ++ [] ≡ xs
append_none [] = refl
append_none (x ∷ xs) = ap (λ l. x ∷ l) (append_none xs)

joined_topped : (id : ℕ) (es : Entries) → joined_in id (topped es) ≡ samples_in id es
joined_topped id [] = refl
joined_topped id (e ∷ es) = append_none (samples_in id (e ∷ es))

into_times : (id : ℕ) (x : Sample) (bs : List Entries) (es : Entries) → times id x (merged_into bs es) ≡ times_in x (joined_in id bs) + times id x es
into_times id x [] es = omega arith
into_times id x (b ∷ bs) es =
    let r = into_times id x bs es in
    omega (arith, r, merged_times id x b (merged_into bs es), times_append x (samples_in id b) (joined_in id bs))

into_ascends : (bs : List Entries) (es : Entries) → list_all ascends bs ≡ true → ascends es ≡ true → ascends (merged_into bs es) ≡ true
into_ascends [] es h a = a
into_ascends (b ∷ bs) es h a =
    merged_ascends b (merged_into bs es) (first_so (ascends b) (list_all ascends bs) h) (into_ascends bs es (second_so (ascends b) (list_all ascends bs) h) a)

all_drop : (n : ℕ) (cs : List Entries) → list_all ascends cs ≡ true → list_all ascends (drop n cs) ≡ true
all_drop zero cs h = h
all_drop (suc n) [] h = refl
all_drop (suc n) (c ∷ cs) h = all_drop n cs (second_so (ascends c) (list_all ascends cs) h)

all_take : (n : ℕ) (cs : List Entries) → list_all ascends cs ≡ true → list_all ascends (take n cs) ≡ true
all_take zero cs h = refl
all_take (suc n) [] h = refl
all_take (suc n) (c ∷ cs) h = both (ascends c) (list_all ascends (take n cs)) (first_so (ascends c) (list_all ascends cs) h) (all_take n cs (second_so (ascends c) (list_all ascends cs) h))

all_append : (bs cs : List Entries) → list_all ascends bs ≡ true → list_all ascends cs ≡ true → list_all ascends (bs ++ cs) ≡ true
all_append [] cs h g = g
all_append (b ∷ bs) cs h g = both (ascends b) (list_all ascends (bs ++ cs)) (first_so (ascends b) (list_all ascends bs) h) (all_append bs cs (second_so (ascends b) (list_all ascends bs) h) g)

all_topped : (es : Entries) → ascends es ≡ true → list_all ascends (topped es) ≡ true
all_topped [] h = refl
all_topped (e ∷ es) h = both (ascends (e ∷ es)) true h refl

-- ---- the list of all series

from_length : (i n : ℕ) (bs : List Entries) → length (series_from i n bs) ≡ n
from_length i zero bs = refl
from_length i (suc n) bs = ap suc (from_length (i + 1) n bs)

pub from_at : (i n k : ℕ) (bs : List Entries) → k < n → get_or (series_from i n bs) k [] ≡ series_in (i + k) bs
from_at i zero k bs l = absurd (omega arith)
from_at i (suc n) zero bs l = let e : i ≡ i + 0 = omega arith in ap (λ j. series_in j bs) e
from_at i (suc n) (suc k) bs l = let e : (i + 1) + k ≡ i + suc k = omega arith in from_at (i + 1) n k bs (omega arith) ∙ ap (λ j. series_in j bs) e

-- lists that are equal place by place
from_is : (i n : ℕ) (bs : List Entries) (xss : List (List Sample)) → length xss ≡ n → ((k : ℕ) → k < n → series_in (i + k) bs ≡ get_or xss k []) → series_from i n bs ≡ xss
from_is i zero bs [] l h = refl
from_is i zero bs (xs ∷ xss) l h = absurd (omega arith)
from_is i (suc n) bs [] l h = absurd (omega arith)
from_is i (suc n) bs (xs ∷ xss) l h =
    let e : i ≡ i + 0 = omega arith in
    let f : series_in i bs ≡ xs = ap (λ j. series_in j bs) e ∙ h 0 (omega arith) in
    let r : series_from (i + 1) n bs ≡ xss = from_is (i + 1) n bs xss (omega arith) (λ k m. let z : (i + 1) + k ≡ i + suc k = omega arith in ap (λ j. series_in j bs) z ∙ h (suc k) (omega arith)) in
    λ j. f j ∷ r j

over_end : (xss : List (List Sample)) (k : ℕ) → length xss ≤ k → get_or xss k [] ≡ []
over_end [] k l = refl
over_end (xs ∷ xss) zero l = absurd (omega arith)
over_end (xs ∷ xss) (suc k) l = over_end xss k (omega arith)

inside_at : (k : ℕ) (xss : List (List Sample)) → list_all is_series xss ≡ true → rises (get_or xss k []) ≡ true
inside_at k [] h = refl
inside_at zero (xs ∷ xss) h = series_rises xs (first_so (is_series xs) (list_all is_series xss) h)
inside_at (suc k) (xs ∷ xss) h = inside_at k xss (second_so (is_series xs) (list_all is_series xss) h)

-- what is kept, by its series: those of the snapshot
module _ (labels : List Pairs) (bs : List Entries) (sizes : List ℕ) (order : Order) (kept : IsKept labels bs sizes order) where
  kept_by : (k : ℕ) (v : Bool) → nat_lt k (length labels) ≡ v → series_in k bs ≡ samples_of (snap_of labels bs) k
  kept_by k true e = let l : k < length labels = grind (arith, nat_tests) in let z : k ≡ 0 + k = omega arith in ap (λ j. series_in j bs) z ∙ sym (from_at 0 (length labels) k bs l)
  kept_by k false e =
      let l : length labels ≤ k = grind (arith, nat_tests) in
      kept.known k l ∙ sym (over_end (series_from 0 (length labels) bs) k (let e = from_length 0 (length labels) bs in omega (arith, l, e)))

  pub kept_at : (k : ℕ) → series_in k bs ≡ samples_of (snap_of labels bs) k
  kept_at k = kept_by k (nat_lt k (length labels)) refl

  pub kept_rises : (k : ℕ) → rises (series_in k bs) ≡ true
  kept_rises k = ap rises (kept_at k) ∙ inside_at k (series_from 0 (length labels) bs) kept.snap.lawful

-- blocks with the series of a snapshot
pub kept_of : (s : SnapData) (labels : List Pairs) (bs : List Entries) (sizes : List ℕ) (order : Order) → IsSnap s → labels ≡ s.labels → list_all ascends bs ≡ true → ((k : ℕ) → series_in k bs ≡ samples_of s k) → list_all (nat_lt 0) sizes ≡ true → doubles sizes ≡ true → covers sizes bs ≡ true →
    IsOrdered bs order → (snap_of labels bs ≡ s) × IsKept labels bs sizes order
kept_of s labels bs sizes order h e a f g d v o =
    let n : length s.samples ≡ length labels = h.alike ∙ ap length (sym e) in
    let is : series_from 0 (length labels) bs ≡ s.samples = from_is 0 (length labels) bs s.samples n (λ k l. let z : 0 + k ≡ k = omega arith in ap (λ j. series_in j bs) z ∙ f k) in
    let same : snap_of labels bs ≡ s = λ i. record { labels = e i; samples = is i } in (
      same,
      record {
        snap = subst (λ t. IsSnap t) (sym same) h;
        sorted = a;
        known = λ k l. f k ∙ over_end s.samples k (omega (arith, n, l));
        filled = g;
        doubles = d;
        covers = v;
        ordered = o;
      },
    )

-- ---- a further block

clear_at : (k : ℕ) (y : Sample) (bs : List Entries) (es : Entries) → is_clear bs es ≡ true → 0 < times k y es → list_all (is_not_after y.time) (joined_in k bs) ≡ true
clear_at k y bs [] h l = absurd (omega arith)
clear_at k y bs (e ∷ es) h l =
    let f = first_so (list_all (is_not_after e.1.time) (joined_in e.0 bs)) (is_clear bs es) h in
    let g = second_so (list_all (is_not_after e.1.time) (joined_in e.0 bs)) (is_clear bs es) h in
    clear_by (nat_eq k e.0) (same_sample y e.1) refl refl f (λ m. clear_at k y bs es g m) (subst (λ n. 0 < n) (times_more k y e es) l) where
      clear_by : (v w : Bool) → nat_eq k e.0 ≡ v → same_sample y e.1 ≡ w → list_all (is_not_after e.1.time) (joined_in e.0 bs) ≡ true → (0 < times k y es → list_all (is_not_after y.time) (joined_in k bs) ≡ true) →
          0 < cond v (cond w 1 0) 0 + times k y es → list_all (is_not_after y.time) (joined_in k bs) ≡ true
      clear_by true true p q f r l = let i : k ≡ e.0 = grind (arith, nat_tests) in let s : y ≡ e.1 = same_is y e.1 q in subst (λ z. list_all (is_not_after z.time) (joined_in k bs) ≡ true) (sym s) (subst (λ j. list_all (is_not_after e.1.time) (joined_in j bs) ≡ true) (sym i) f)
      clear_by true false p q f r l = r (omega arith)
      clear_by false w p q f r l = r (omega arith)

module _ (bs : List Entries) (sizes : List ℕ) (old : Order) (kept clear : ℕ) (es : Entries) (stack : List Entries) (numbers : List ℕ) (new : Order) (s : IsStacked bs sizes old kept clear es stack numbers new) where
  stack_is : (k : ℕ) → joined_in k stack ≡ joined_in k (take s.count bs) ++ samples_in k (merged_into (drop s.count bs) es)
  stack_is k =
      ap (joined_in k) s.same ∙ joined_append k (take s.count bs) (topped (merged_into (drop s.count bs) es))
      ∙ ap (λ l. joined_in k (take s.count bs) ++ l) (joined_topped k (merged_into (drop s.count bs) es))

  pub stack_times : (k : ℕ) (x : Sample) → times_in x (joined_in k stack) ≡ times_in x (joined_in k bs) + times k x es
  stack_times k x =
      let a = ap (times_in x) (stack_is k) in
      let b = times_append x (joined_in k (take s.count bs)) (samples_in k (merged_into (drop s.count bs) es)) in
      let c = into_times k x (drop s.count bs) es in
      let d = parts_times k s.count x bs in
      omega (arith, a, b, c, d)

  pub stack_sorted : list_all ascends bs ≡ true → ascends es ≡ true → list_all ascends stack ≡ true
  stack_sorted h a =
      ap (list_all ascends) s.same
      ∙ all_append (take s.count bs) (topped (merged_into (drop s.count bs) es)) (all_take s.count bs h) (all_topped (merged_into (drop s.count bs) es) (into_ascends (drop s.count bs) es (all_drop s.count bs h) a))

  -- the first blocks stay
  stack_front : (m : ℕ) → m ≤ s.count → take m stack ≡ take m bs
  stack_front m l = ap (take m) s.same ∙ take_front m s.count bs (topped (merged_into (drop s.count bs) es)) l s.inside

  stack_behind : (k m : ℕ) (x : Sample) → m ≤ s.count → times_in x (joined_in k (drop m stack)) ≡ times_in x (joined_in k (drop m bs)) + times k x es
  stack_behind k m x l =
      let a = stack_times k x in
      let b = parts_times k m x bs in
      let c = parts_times k m x stack in
      let d = ap (λ t. times_in x (joined_in k t)) (stack_front m l) in
      omega (arith, a, b, c, d)

  module _ (sorted : list_all ascends bs ≡ true) (own : ascends es ≡ true) (o : IsOrdered bs old) (free : is_clear (take clear bs) es ≡ true) where
    -- no sample of the first `c` blocks is after one behind the first `m` that are in order
    module _ (k m c : ℕ) (x y : Sample) (lm : m ≤ old.ordered) (lc : c ≤ m) (ld : c ≤ old.clear) (lf : c ≤ clear) (there : 0 < times_in x (joined_in k (take c bs))) where
      apart_own : 0 < times k y es → int_le x.time y.time ≡ true
      apart_own l = all_not_after y.time (joined_in k (take clear bs)) x (clear_at k y (take clear bs) es free l) (let t = take_times k c clear x bs lf in omega (arith, t, there))

      apart_front : 0 < times_in y (joined_in k (drop m (take old.ordered bs))) → int_le x.time y.time ≡ true
      apart_front l =
          rises_apart (joined_in k (take m (take old.ordered bs))) (joined_in k (drop m (take old.ordered bs))) x y (ap rises (joined_split k m (take old.ordered bs)) ∙ o.front k)
          (let t = take_times k c m x bs lc in let e = ap (λ z. times_in x (joined_in k z)) (take_less m old.ordered bs lm) in omega (arith, t, e, there)) l

      apart_behind : 0 < times_in y (joined_in k (drop old.ordered bs)) → int_le x.time y.time ≡ true
      apart_behind l = o.apart k x y (let t = take_times k c old.clear x bs ld in omega (arith, t, there)) l

      behind_split : times_in y (joined_in k (drop m bs)) ≡ times_in y (joined_in k (drop m (take old.ordered bs))) + times_in y (joined_in k (drop old.ordered bs))
      behind_split =
          let a = parts_times k m y bs in
          let b = parts_times k old.ordered y bs in
          let c = parts_times k m y (take old.ordered bs) in
          let d = ap (λ z. times_in y (joined_in k z)) (take_less m old.ordered bs lm) in
          omega (arith, a, b, c, d)

      apart_by : (n p q : ℕ) → times k y es ≡ n → times_in y (joined_in k (drop old.ordered bs)) ≡ p → times_in y (joined_in k (drop m (take old.ordered bs))) ≡ q → 0 < (q + p) + n → int_le x.time y.time ≡ true
      apart_by (suc n) p q e f g l = apart_own (omega (arith, e))
      apart_by zero (suc p) q e f g l = apart_behind (omega (arith, f))
      apart_by zero zero (suc q) e f g l = apart_front (omega (arith, g))
      apart_by zero zero zero e f g l = absurd (omega arith)

      apart_at : 0 < times_in y (joined_in k (drop m bs)) + times k y es → int_le x.time y.time ≡ true
      apart_at l =
          apart_by (times k y es) (times_in y (joined_in k (drop old.ordered bs))) (times_in y (joined_in k (drop m (take old.ordered bs)))) refl refl refl (omega (arith, behind_split, l))

    -- the whole stack is in order
    module _ (lo : s.count ≤ old.ordered) (lc : s.count ≤ min old.clear clear) where
      all_goes : (k : ℕ) → goes (joined_in k stack) ≡ true
      all_goes k =
          let f : rises (joined_in k (take s.count bs)) ≡ true = front_less k s.count old.ordered bs lo (o.front k) in
          let a : ascends (merged_into (drop s.count bs) es) ≡ true = into_ascends (drop s.count bs) es (all_drop s.count bs sorted) own in
          ap goes (stack_is k)
          ∙ goes_on (joined_in k (take s.count bs)) (samples_in k (merged_into (drop s.count bs) es)) (rises_goes (joined_in k (take s.count bs)) f) (series_goes k (merged_into (drop s.count bs) es) a)
          (λ x y l m. apart_at k s.count s.count x y lo (omega arith) (omega (arith, lc)) (omega (arith, lc)) l (subst (λ n. 0 < n) (into_times k y (drop s.count bs) es) m))

    module _ (whole : ℕ → List Sample) (up : (k : ℕ) → rises (whole k) ≡ true) (same : (k : ℕ) (x : Sample) → times_in x (whole k) ≡ times_in x (joined_in k stack)) where
      all_rises : s.count ≤ old.ordered → s.count ≤ min old.clear clear → (k : ℕ) → rises (joined_in k stack) ≡ true
      all_rises lo lc k = ap rises (one_list (whole k) (joined_in k stack) (up k) (all_goes lo lc k) (same k)) ∙ up k

      ordered_all : (n : ℕ) → n ≡ length stack → s.count ≤ old.ordered → s.count ≤ min old.clear clear → IsOrdered stack (record { ordered = n; clear = n })
      ordered_all n e lo lc = record {
        within = omega arith;
        front = λ k. ap (λ t. rises (joined_in k t)) (ap (λ m. take m stack) e ∙ take_all stack) ∙ all_rises lo lc k;
        apart = λ k x y l m. let z = ap (λ t. times_in y (joined_in k t)) (ap (λ i. drop i stack) e ∙ drop_all stack) in absurd (omega (arith, z, m));
      }

      ordered_part : (n c : ℕ) → n ≤ old.ordered → n ≤ s.count → c ≤ n → c ≤ old.clear → c ≤ clear → IsOrdered stack (record { ordered = n; clear = c })
      ordered_part n c ln lk lc ld lf = record {
        within = lc;
        front = λ k. ap (λ t. rises (joined_in k t)) (stack_front n lk) ∙ front_less k n old.ordered bs ln (o.front k);
        apart = λ k x y l m.
            apart_at k n c x y ln lc ld lf (let z = ap (λ t. times_in x (joined_in k t)) (stack_front c (omega (arith, lc, lk))) in omega (arith, z, l)) (let z = stack_behind k n y lk in omega (arith, z, m));
      }

      ordered_by : (v w : Bool) → nat_le s.count old.ordered ≡ v → nat_le s.count (min old.clear clear) ≡ w →
          IsOrdered stack (cond (v && w) (record { ordered = length stack; clear = length stack }) (record { ordered = min old.ordered s.count; clear = min old.clear clear }))
      ordered_by true true e f = ordered_all (length stack) refl (grind (arith, nat_tests)) (grind (arith, nat_tests))
      ordered_by false w e f =
          let g : old.ordered < s.count = grind (arith, nat_tests) in
          let h = o.within in
          ordered_part (min old.ordered s.count) (min old.clear clear) (omega arith) (omega arith) (omega (arith, g, h)) (omega arith) (omega arith)
      ordered_by true false e f =
          let g : min old.clear clear < s.count = grind (arith, nat_tests) in
          let h = o.within in
          ordered_part (min old.ordered s.count) (min old.clear clear) (omega arith) (omega arith) (omega (arith, g, h)) (omega arith) (omega arith)

      pub stack_ordered : IsOrdered stack new
      stack_ordered = subst (λ q. IsOrdered stack q) (sym s.ordered) (ordered_by (nat_le s.count old.ordered) (nat_le s.count (min old.clear clear)) refl refl)

-- ---- the numbers of blocks

covers_by : (n : ℕ) (b : Entries) (ns : List ℕ) (bs : List Entries) → covers (n ∷ ns) (b ∷ bs) ≡ true → (length b ≤ n) × (covers ns bs ≡ true)
covers_by n b ns bs h = let f = first_so (nat_le (length b) n) (covers ns bs) h in (grind (arith, nat_tests), second_so (nat_le (length b) n) (covers ns bs) h)

covers_of : (n : ℕ) (b : Entries) (ns : List ℕ) (bs : List Entries) → length b ≤ n → covers ns bs ≡ true → covers (n ∷ ns) (b ∷ bs) ≡ true
covers_of n b ns bs l h = both (nat_le (length b) n) (covers ns bs) (grind (arith, nat_tests)) h

covers_take : (k : ℕ) (ns : List ℕ) (bs : List Entries) → covers ns bs ≡ true → covers (take k ns) (take k bs) ≡ true
covers_take zero ns bs h = refl
covers_take (suc k) [] [] h = refl
covers_take (suc k) [] (b ∷ bs) h = cc
covers_take (suc k) (n ∷ ns) [] h = cc
covers_take (suc k) (n ∷ ns) (b ∷ bs) h = let r = covers_by n b ns bs h in covers_of n b (take k ns) (take k bs) r.0 (covers_take k ns bs r.1)

covers_append : (ns ms : List ℕ) (bs cs : List Entries) → covers ns bs ≡ true → covers ms cs ≡ true → covers (ns ++ ms) (bs ++ cs) ≡ true
covers_append [] ms [] cs h g = g
covers_append [] ms (b ∷ bs) cs h g = cc
covers_append (n ∷ ns) ms [] cs h g = cc
covers_append (n ∷ ns) ms (b ∷ bs) cs h g = let r = covers_by n b ns bs h in covers_of n b (ns ++ ms) (bs ++ cs) r.0 (covers_append ns ms bs cs r.1 g)

covers_topped : (es : Entries) → covers (map length (topped es)) (topped es) ≡ true
covers_topped [] = refl
covers_topped (e ∷ es) = covers_of (length (e ∷ es)) (e ∷ es) [] [] (omega arith) refl

covers_map : (f : Entries → Entries) → ((b : Entries) → length (f b) ≤ length b) → (ns : List ℕ) (bs : List Entries) → covers ns bs ≡ true → covers ns (map f bs) ≡ true
covers_map f l [] [] h = refl
covers_map f l [] (b ∷ bs) h = cc
covers_map f l (n ∷ ns) [] h = cc
covers_map f l (n ∷ ns) (b ∷ bs) h = let r = covers_by n b ns bs h in let a = l b in let c = r.0 in covers_of n (f b) ns (map f bs) (omega (arith, a, c)) (covers_map f l ns bs r.1)

pub covers_length : (ns : List ℕ) (bs : List Entries) → covers ns bs ≡ true → length ns ≡ length bs
covers_length [] [] h = refl
covers_length [] (b ∷ bs) h = cc
covers_length (n ∷ ns) [] h = cc
covers_length (n ∷ ns) (b ∷ bs) h = ap suc (covers_length ns bs (covers_by n b ns bs h).1)

pub covers_total : (ns : List ℕ) (bs : List Entries) → covers ns bs ≡ true → total (map length bs) ≤ total ns
covers_total [] [] h = omega arith
covers_total [] (b ∷ bs) h = cc
covers_total (n ∷ ns) [] h = cc
covers_total (n ∷ ns) (b ∷ bs) h = let r = covers_by n b ns bs h in let a = r.0 in let t = covers_total ns bs r.1 in omega (arith, a, t)

stack_covers : (bs : List Entries) (sizes : List ℕ) (old : Order) (kept clear : ℕ) (es : Entries) (stack : List Entries) (numbers : List ℕ) (new : Order) → IsStacked bs sizes old kept clear es stack numbers new → covers sizes bs ≡ true → covers numbers stack ≡ true
stack_covers bs sizes old kept clear es stack numbers new s h =
    (λ i. covers (s.numbered i) (s.same i))
    ∙ covers_append (take s.count sizes) (map length (topped (merged_into (drop s.count bs) es))) (take s.count bs) (topped (merged_into (drop s.count bs) es)) (covers_take s.count sizes bs h) (covers_topped (merged_into (drop s.count bs) es))

filled_take : (k : ℕ) (ns : List ℕ) → list_all (nat_lt 0) ns ≡ true → list_all (nat_lt 0) (take k ns) ≡ true
filled_take zero ns h = refl
filled_take (suc k) [] h = refl
filled_take (suc k) (n ∷ ns) h = both (nat_lt 0 n) (list_all (nat_lt 0) (take k ns)) (first_so (nat_lt 0 n) (list_all (nat_lt 0) ns) h) (filled_take k ns (second_so (nat_lt 0 n) (list_all (nat_lt 0) ns) h))

filled_append : (ns ms : List ℕ) → list_all (nat_lt 0) ns ≡ true → list_all (nat_lt 0) ms ≡ true → list_all (nat_lt 0) (ns ++ ms) ≡ true
filled_append [] ms h g = g
filled_append (n ∷ ns) ms h g = both (nat_lt 0 n) (list_all (nat_lt 0) (ns ++ ms)) (first_so (nat_lt 0 n) (list_all (nat_lt 0) ns) h) (filled_append ns ms (second_so (nat_lt 0 n) (list_all (nat_lt 0) ns) h) g)

filled_topped : (es : Entries) → list_all (nat_lt 0) (map length (topped es)) ≡ true
filled_topped [] = refl
filled_topped (e ∷ es) = both (nat_lt 0 (length (e ∷ es))) true (grind (arith, nat_tests)) refl

stack_filled : (bs : List Entries) (sizes : List ℕ) (old : Order) (kept clear : ℕ) (es : Entries) (stack : List Entries) (numbers : List ℕ) (new : Order) → IsStacked bs sizes old kept clear es stack numbers new → list_all (nat_lt 0) sizes ≡ true → list_all (nat_lt 0) numbers ≡ true
stack_filled bs sizes old kept clear es stack numbers new s h =
    ap (list_all (nat_lt 0)) s.numbered
    ∙ filled_append (take s.count sizes) (map length (topped (merged_into (drop s.count bs) es))) (filled_take s.count sizes h) (filled_topped (merged_into (drop s.count bs) es))

-- rows put in
pub with_is : (labels news : List Pairs) (bs stack : List Entries) (sizes numbers : List ℕ) (old new : Order) (es : Entries) (rows : List Row) → IsKept labels bs sizes old → ascends es ≡ true →
    are_new (snap_of labels bs) rows ≡ true → are_timed rows ≡ true → news ≡ labels_with labels rows → length news < 2 ^ 32 →
    ((k : ℕ) (x : Sample) → times k x es ≡ times k x (entries_of labels rows)) → IsPut bs sizes old es stack numbers new →
    (snap_of news stack ≡ with_rows (snap_of labels bs) rows) × IsKept news stack numbers new
with_is labels news bs stack sizes numbers old new es rows kept own fresh timed e few counts put =
    let s = snap_of labels bs in
    let st = put.stacked in
    let h : IsSnap (with_rows s rows) = rows_snap s rows kept.snap fresh timed (subst (λ l. length l < 2 ^ 32) e few) in
    let up : (k : ℕ) → rises (samples_of (with_rows s rows) k) ≡ true = λ k. inside_at k ((with_rows s rows).samples) h.lawful in
    let sorted = stack_sorted bs sizes old (length bs) put.clear es stack numbers new st kept.sorted own in
    let same : (k : ℕ) (x : Sample) → times_in x (samples_of (with_rows s rows) k) ≡ times_in x (joined_in k stack) = λ k x.
    let a = rows_times k x s rows kept.snap.alike in
    let b = stack_times bs sizes old (length bs) put.clear es stack numbers new st k x in
    let c = counts k x in
    let d = ap (times_in x) (kept_at labels bs sizes old kept k) in
    let f = series_times k x bs in
    omega (arith, a, b, c, d, f) in
    kept_of (with_rows s rows) news stack numbers new h (e ∙ sym (rows_labels s rows)) sorted
    (λ k. one_list (samples_of (with_rows s rows) k) (series_in k stack) (up k) (all_go k stack sorted) (λ x. same k x ∙ sym (series_times k x stack)))
    (stack_filled bs sizes old (length bs) put.clear es stack numbers new st kept.filled) st.doubles (stack_covers bs sizes old (length bs) put.clear es stack numbers new st kept.covers)
    (stack_ordered bs sizes old (length bs) put.clear es stack numbers new st kept.sorted own kept.ordered put.free (λ k. samples_of (with_rows s rows) k) up same)

-- ---- filters

pub filter_append : (p : Sample → Bool) (xs ys : List Sample) → filter p (xs ++ ys) ≡ filter p xs ++ filter p ys
filter_append p [] ys = refl
filter_append p (x ∷ xs) ys =
    let r = filter_append p xs ys in
    elim (p x) as (λ v. cond v (x ∷ filter p (xs ++ ys)) (filter p (xs ++ ys)) ≡ cond v (x ∷ filter p xs) (filter p xs) ++ filter p ys) [ true ↦ ap (λ l. x ∷ l) r | false ↦ r ]

cut_at : (first : ℕ) (series : List ℕ) (from to : ℤ) (xss : List (List Sample)) (k : ℕ) → k < length xss →
    get_or (cut_from first series from to xss) k [] ≡ cond (list_any (nat_eq (first + k)) series) (filter (is_outside from to) (get_or xss k [])) (get_or xss k [])
cut_at first series from to [] k l = absurd (omega arith)
cut_at first series from to (xs ∷ xss) zero l = let e : first ≡ first + 0 = omega arith in ap (λ i. cond (list_any (nat_eq i) series) (filter (is_outside from to) xs) xs) e
cut_at first series from to (xs ∷ xss) (suc k) l =
    let e : (first + 1) + k ≡ first + suc k = omega arith in
    cut_at (first + 1) series from to xss k (omega arith) ∙ ap (λ i. cond (list_any (nat_eq i) series) (filter (is_outside from to) (get_or xss k [])) (get_or xss k [])) e

-- ---- samples cut out

module _ (labels : List Pairs) (bs : List Entries) (sizes : List ℕ) (order : Order) (series : List ℕ) (from to : ℕ) (f t : ℤ) (kept : IsKept labels bs sizes order) (p : f ≡ pos (min from 4398046511104)) (q : t ≡ pos (min to 4398046511103)) where
  abbrev pub s : SnapData
  s = snap_of labels bs

  abbrev pub new : SnapData
  new = without_rows s series from to

  abbrev pub cut_blocks : List Entries
  cut_blocks = map (cut_by series f t) bs

  cut_append : (k : ℕ) (xs ys : List Sample) → spared_of f t series k (xs ++ ys) ≡ spared_of f t series k xs ++ spared_of f t series k ys
  cut_append k xs ys = elim (list_any (nat_eq k) series) as (λ v. cond v (filter (is_outside f t) (xs ++ ys)) (xs ++ ys) ≡ cond v (filter (is_outside f t) xs) xs ++ cond v (filter (is_outside f t) ys) ys) [
    | true ↦ filter_append (is_outside f t) xs ys
    | false ↦ refl
  ]

  cut_none : (k : ℕ) → [] ≡ spared_of f t series k []
  cut_none k = elim (list_any (nat_eq k) series) as (λ v. ◌≡◌ {A = List Sample} [] (cond v [] [])) [ true ↦ refl | false ↦ refl ]

  all_in : (k : ℕ) (cs : List Entries) → joined_in k (map (cut_by series f t) cs) ≡ spared_of f t series k (joined_in k cs)
  all_in k [] = cut_none k
  all_in k (c ∷ cs) = (λ i. cut_in f t series k c i ++ all_in k cs i) ∙ sym (cut_append k (samples_in k c) (joined_in k cs))

  left_same : (k : ℕ) → k < length labels → spared_of f t series k (series_in k bs) ≡ samples_of new k
  left_same k l =
      let n : k < length s.samples = let e : length s.samples ≡ length labels = from_length 0 (length labels) bs in omega (arith, e, l) in
      let timed = series_timed (samples_of s k) (all_at is_series s.samples k [] kept.snap.lawful n) in
      let z : 0 + k ≡ k = omega arith in
      ap (spared_of f t series k) (kept_at labels bs sizes order kept k)
      ∙ ap (λ l. cond (list_any (nat_eq k) series) l (samples_of s k)) (cut_same from to f t p q (samples_of s k) timed)
      ∙ ap (λ i. cond (list_any (nat_eq i) series) (filter (is_outside (pos from) (pos to)) (samples_of s k)) (samples_of s k)) (sym z)
      ∙ sym (cut_at 0 series (pos from) (pos to) s.samples k n)

  new_snap : IsSnap new
  new_snap = cut_snap s series (pos from) (pos to) labels new.samples kept.snap refl refl

  all_sorted : (cs : List Entries) → list_all ascends cs ≡ true → list_all ascends (map (cut_by series f t) cs) ≡ true
  all_sorted [] h = refl
  all_sorted (c ∷ cs) h =
      both (ascends (cut_by series f t c)) (list_all ascends (map (cut_by series f t) cs)) (cut_ascends f t series c (first_so (ascends c) (list_all ascends cs) h)) (all_sorted cs (second_so (ascends c) (list_all ascends cs) h))

  spared_times : (k : ℕ) (x : Sample) (xs ys : List Sample) → times_in x xs ≡ times_in x ys → times_in x (spared_of f t series k xs) ≡ times_in x (spared_of f t series k ys)
  spared_times k x xs ys e = by (list_any (nat_eq k) series) where
    by : (v : Bool) → times_in x (cond v (filter (is_outside f t) xs) xs) ≡ times_in x (cond v (filter (is_outside f t) ys) ys)
    by true = filter_times x (is_outside f t) xs ∙ ap (λ n. cond (is_outside f t x) n 0) e ∙ sym (filter_times x (is_outside f t) ys)
    by false = e

  spared_fewer : (k : ℕ) (x : Sample) (xs : List Sample) → times_in x (spared_of f t series k xs) ≤ times_in x xs
  spared_fewer k x xs = by (list_any (nat_eq k) series) where
    less : (v : Bool) (n : ℕ) → cond v n 0 ≤ n
    less true n = omega arith
    less false n = omega arith

    by : (v : Bool) → times_in x (cond v (filter (is_outside f t) xs) xs) ≤ times_in x xs
    by true = let e = filter_times x (is_outside f t) xs in let l = less (is_outside f t x) (times_in x xs) in omega (arith, e, l)
    by false = omega arith

  spared_up : (k : ℕ) (xs : List Sample) → rises xs ≡ true → rises (spared_of f t series k xs) ≡ true
  spared_up k xs r = by (list_any (nat_eq k) series) where
    by : (v : Bool) → rises (cond v (filter (is_outside f t) xs) xs) ≡ true
    by true = rises_filter (is_outside f t) xs r
    by false = r

  none_in : (k : ℕ) → length labels ≤ k → (x : Sample) → times_in x (samples_of new k) ≡ times_in x (spared_of f t series k (series_in k bs))
  none_in k l x =
      let n : length new.samples ≤ k = let a : length new.samples ≡ length labels = new_snap.alike in omega (arith, a, l) in
      ap (times_in x) (over_end new.samples k n ∙ cut_none k ∙ ap (spared_of f t series k) (sym (kept.known k l)))

  spared_by : (k : ℕ) (x : Sample) (v : Bool) → nat_lt k (length labels) ≡ v → times_in x (samples_of new k) ≡ times_in x (spared_of f t series k (series_in k bs))
  spared_by k x true e = let l : k < length labels = grind (arith, nat_tests) in ap (times_in x) (sym (left_same k l))
  spared_by k x false e = let l : length labels ≤ k = grind (arith, nat_tests) in none_in k l x

  -- what is left of a series, counted
  left_times : (k : ℕ) (x : Sample) → times_in x (samples_of new k) ≡ times_in x (joined_in k cut_blocks)
  left_times k x =
      spared_by k x (nat_lt k (length labels)) refl ∙ spared_times k x (series_in k bs) (joined_in k bs) (series_times k x bs) ∙ ap (times_in x) (sym (all_in k bs))

  cut_up : (k : ℕ) → rises (samples_of new k) ≡ true
  cut_up k = inside_at k new.samples new_snap.lawful

  map_take : (g : Entries → Entries) (n : ℕ) (cs : List Entries) → take n (map g cs) ≡ map g (take n cs)
  map_take g zero cs = refl
  map_take g (suc n) [] = refl
  map_take g (suc n) (c ∷ cs) = ap (λ l. g c ∷ l) (map_take g n cs)

  map_drop : (g : Entries → Entries) (n : ℕ) (cs : List Entries) → drop n (map g cs) ≡ map g (drop n cs)
  map_drop g zero cs = refl
  map_drop g (suc n) [] = refl
  map_drop g (suc n) (c ∷ cs) = map_drop g n cs

  cut_front : (k n : ℕ) → joined_in k (take n cut_blocks) ≡ spared_of f t series k (joined_in k (take n bs))
  cut_front k n = ap (joined_in k) (map_take (cut_by series f t) n bs) ∙ all_in k (take n bs)

  cut_behind : (k n : ℕ) → joined_in k (drop n cut_blocks) ≡ spared_of f t series k (joined_in k (drop n bs))
  cut_behind k n = ap (joined_in k) (map_drop (cut_by series f t) n bs) ∙ all_in k (drop n bs)

  cut_ordered : IsOrdered cut_blocks order
  cut_ordered = record {
    within = kept.ordered.within;
    front = λ k. ap rises (cut_front k order.ordered) ∙ spared_up k (joined_in k (take order.ordered bs)) (kept.ordered.front k);
    apart = λ k x y l m.
        kept.ordered.apart k x y
        (let a = ap (times_in x) (cut_front k order.clear) in let b = spared_fewer k x (joined_in k (take order.clear bs)) in omega (arith, a, b, l))
        (let a = ap (times_in y) (cut_behind k order.ordered) in let b = spared_fewer k y (joined_in k (drop order.ordered bs)) in omega (arith, a, b, m));
  }

  module _ (stack : List Entries) (numbers : List ℕ) (after : Order) (c : IsCut series f t bs sizes order stack numbers after) where
    left_in_stack : (k : ℕ) (x : Sample) → times_in x (samples_of new k) ≡ times_in x (joined_in k stack)
    left_in_stack k x = let a = stack_times cut_blocks sizes order c.kept c.clear [] stack numbers after c.stacked k x in let b = left_times k x in omega (arith, a, b)

    left_sorted : list_all ascends stack ≡ true
    left_sorted = stack_sorted cut_blocks sizes order c.kept c.clear [] stack numbers after c.stacked (all_sorted bs kept.sorted) refl

    pub without_is : (snap_of labels stack ≡ new) × IsKept labels stack numbers after
    without_is =
        kept_of new labels stack numbers after new_snap refl left_sorted
        (λ k. one_list (samples_of new k) (series_in k stack) (cut_up k) (all_go k stack left_sorted) (λ x. left_in_stack k x ∙ sym (series_times k x stack)))
        (stack_filled cut_blocks sizes order c.kept c.clear [] stack numbers after c.stacked kept.filled) c.stacked.doubles
        (stack_covers cut_blocks sizes order c.kept c.clear [] stack numbers after c.stacked (covers_map (cut_by series f t) (cut_shorter f t series) sizes bs kept.covers))
        (stack_ordered cut_blocks sizes order c.kept c.clear [] stack numbers after c.stacked (all_sorted bs kept.sorted) refl cut_ordered refl (λ k. samples_of new k) cut_up left_in_stack)

pub lawful_at : (s : SnapData) (id : ℕ) → IsSnap s → id < length s.labels → is_series (samples_of s id) ≡ true
lawful_at s id h l = let a = h.alike in all_at is_series s.samples id [] h.lawful (omega (arith, a, l))

pub cut_made : (labels news : List Pairs) (bs cs stack : List Entries) (sizes ns numbers : List ℕ) (old new : Order) (series : List ℕ) (from to : ℕ) (f t : ℤ) → IsKept labels bs sizes old → IsCut series f t cs ns old stack numbers new → cs ≡ bs → ns ≡ sizes →
    f ≡ pos (min from 4398046511104) → t ≡ pos (min to 4398046511103) → news ≡ labels → (snap_of news stack ≡ without_rows (snap_of labels bs) series from to) × IsKept news stack numbers new
cut_made labels news bs cs stack sizes ns numbers old new series from to f t kept g r o p q e =
    let c : IsCut series f t bs sizes old stack numbers new = subst (λ m. IsCut series f t bs m old stack numbers new) o (subst (λ b. IsCut series f t b ns old stack numbers new) r g) in
    subst (λ l. (snap_of l stack ≡ without_rows (snap_of labels bs) series from to) × IsKept l stack numbers new) (sym e) (without_is labels bs sizes old series from to f t kept p q stack numbers new c)

pub window_read : (id : ℕ) (bs cs : List Entries) (ys r : List Sample) (a u b v : ℤ) → r ≡ window_of (series_in id bs) a u → bs ≡ cs → series_in id cs ≡ ys → a ≡ b → u ≡ v → r ≡ window_of ys b v
window_read id bs cs ys r a u b v e p q f g = e ∙ ap (λ l. window_of (series_in id l) a u) p ∙ ap (λ l. window_of l a u) q ∙ (λ i. window_of ys (f i) (g i))

pub last_read : (id : ℕ) (bs cs : List Entries) (ys : List Sample) (r : Option Sample) (a u b v : ℤ) → r ≡ last_of (window_of (series_in id bs) a u) → bs ≡ cs → series_in id cs ≡ ys → a ≡ b → u ≡ v → r ≡ last_of (window_of ys b v)
last_read id bs cs ys r a u b v e p q f g = e ∙ ap (λ l. last_of (window_of (series_in id l) a u)) p ∙ ap (λ l. last_of (window_of l a u)) q ∙ (λ i. last_of (window_of ys (f i) (g i)))
