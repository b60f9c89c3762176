-- The accepted series of some label sets, in label order: each once.
use Rattle.std.proofs.Common.{◌≡◌, ℕ, zero, suc, ◌+◌, ◌≤◌, Bool, true, false, cond, ◌&&◌, ◌||◌, not, is_some, Option, Some, None, List, [], ◌∷◌, map, get_or, refl, sym, ap, ◌∙◌, arith}
use Rattle.std.proofs.Math.Bool.{and-false, or-false}
use Rattle.std.specs.List.{list_any, position_from}
use Rattle.std.specs.Cmp.{second_so}
use Rattle.std.specs.Ordering.{is_eq, is_gt, nat_cmp, ordering_reverse, ordering_then}
use Rattle.std.specs.declared.cmp.Ordering.{Ordering}
use Rattle.std.specs.declared.cmp.Ordering.TheVariants.{Less, Equal, Greater}
use Rattle.pf_base.specs.LabelSets.{Pairs}
use Rattle.pf_base.specs.LabelOrder.{labels_cmp, labels_total}
use Rattle.pf_base.specs.Sorting.{ins, isort}
use Rattle.pf_block.specs.SeriesIds.{id_of}
use Rattle.pf_block.specs.Snaps.{are_apart}
use Rattle.pf_model.specs.declared.expr.Matcher.{Matcher}
use Rattle.pf_model.specs.Binding.{accepted_from, accepted_of, series_cmp}
use Rattle.pf_model.specs.Lists.{Each}
use Rattle.pf_model.specs.Selection.{same_labels, accepts}
use Rattle.pf_model.proofs.KeySets.{same_is, same_self, stands_in, or_turned}
use Rattle.pf_model.proofs.SelectorLabels.{AllAbove, Ascends, above_all}

-- a label set with an id
abbrev pub Entry : Type 0
Entry = Pairs × ℕ

abbrev pub names : List Entry → List Pairs
names es = map (λ e. e.0) es

-- ---- places of label sets

absent : (b : Bool) (i : ℕ) (o : Option ℕ) → cond b (Some i) o ≡ None → (b ≡ false) × (o ≡ None)
absent true i o h = cc
absent false i o h = (refl, h)

-- nowhere, from whatever place the count begins
shifted : (l : Pairs) (i j : ℕ) (ls : List Pairs) → position_from (same_labels l) i ls ≡ None → position_from (same_labels l) j ls ≡ None
shifted l i j [] h = refl
shifted l i j (m ∷ ms) h =
    let a = absent (same_labels l m) i (position_from (same_labels l) (i + 1) ms) h in
    ap (λ b. cond b (Some j) (position_from (same_labels l) (j + 1) ms)) a.0 ∙ shifted l (i + 1) (j + 1) ms a.1

none_of : (o : Option ℕ) (b : Bool) → (not (is_some o) && b) ≡ true → o ≡ None
none_of None b h = refl
none_of (Some n) b h = cc

-- the first of label sets that are apart is not among the others
first_absent : (m : Pairs) (ms : List Pairs) (j : ℕ) → are_apart (m ∷ ms) ≡ true → position_from (same_labels m) j ms ≡ None
first_absent m ms j h = shifted m 0 j ms (none_of (id_of m ms) (are_apart ms) h)

others_apart : (m : Pairs) (ms : List Pairs) → are_apart (m ∷ ms) ≡ true → are_apart ms ≡ true
others_apart m ms h = second_so (not (is_some (id_of m ms))) (are_apart ms) h

-- ---- what is accepted

module _ (ms : List Matcher) where
  -- an entry is of the series at its id, and accepted
  abbrev pub IsAccepted : ℕ → List Pairs → Entry → Type 0
  IsAccepted first ls e = (accepts ms e.0 ≡ true) × (position_from (same_labels e.0) first ls ≡ Some e.1)

  behind_by : (first : ℕ) (m : Pairs) (ls : List Pairs) (e : Entry) (b : Bool) → same_labels e.0 m ≡ b → position_from (same_labels m) (first + 1) ls ≡ None
      → IsAccepted (first + 1) ls e → IsAccepted first (m ∷ ls) e
  behind_by first m ls e true s n h =
      let o : e.0 ≡ m = same_is e.0 m s in
      let both : None ≡ Some e.1 = sym n ∙ ap (λ x. position_from (same_labels x) (first + 1) ls) (sym o) ∙ h.1 in cc
  behind_by first m ls e false s n h = (h.0, ap (λ b. cond b (Some first) (position_from (same_labels e.0) (first + 1) ls)) s ∙ h.1)

  all_behind : (first : ℕ) (m : Pairs) (ls : List Pairs) (es : List Entry) → position_from (same_labels m) (first + 1) ls ≡ None
      → Each (IsAccepted (first + 1) ls) es → Each (IsAccepted first (m ∷ ls)) es
  all_behind first m ls [] n h = tt
  all_behind first m ls (e ∷ es) n h = (behind_by first m ls e (same_labels e.0 m) refl n h.0, all_behind first m ls es n h.1)

  first_accepted : (first : ℕ) (m : Pairs) (ls : List Pairs) → accepts ms m ≡ true → IsAccepted first (m ∷ ls) (m, first)
  first_accepted first m ls a = (a, ap (λ b. cond b (Some first) (position_from (same_labels m) (first + 1) ls)) (same_self m))

  -- ---- which label sets are among them, by a test of the id

  module _ (test : ℕ → Bool) where
    abbrev pub passes : Pairs → Entry → Bool
    passes l e = same_labels l e.0 && test e.1

    abbrev pub test_found : Option ℕ → Bool
    test_found None = false
    test_found (Some n) = test n

    first_passes : (first : ℕ) (l m : Pairs) (es : List Entry) (b : Bool) → list_any (passes l) (cond b ((m, first) ∷ es) es) ≡ ((b && (same_labels l m && test first)) || list_any (passes l) es)
    first_passes first l m es true = refl
    first_passes first l m es false = refl

    any_none : (first : ℕ) (l : Pairs) (ls : List Pairs) → position_from (same_labels l) first ls ≡ None → list_any (passes l) (accepted_from first ms ls) ≡ false
    any_none first l [] h = refl
    any_none first l (m ∷ ls) h =
        let a = absent (same_labels l m) first (position_from (same_labels l) (first + 1) ls) h in
        first_passes first l m (accepted_from (first + 1) ms ls) (accepts ms m)
        ∙ ap (λ b. (accepts ms m && (b && test first)) || list_any (passes l) (accepted_from (first + 1) ms ls)) a.0
        ∙ ap (λ b. b || list_any (passes l) (accepted_from (first + 1) ms ls)) (and-false (accepts ms m))
        ∙ any_none (first + 1) l ls a.1

    any_by : (first : ℕ) (l m : Pairs) (ls : List Pairs) (b : Bool) → same_labels l m ≡ b → position_from (same_labels m) (first + 1) ls ≡ None
        → list_any (passes l) (accepted_from (first + 1) ms ls) ≡ (accepts ms l && test_found (position_from (same_labels l) (first + 1) ls))
        → ((accepts ms m && (b && test first)) || list_any (passes l) (accepted_from (first + 1) ms ls)) ≡ (accepts ms l && test_found (cond b (Some first) (position_from (same_labels l) (first + 1) ls)))
    any_by first l m ls true s n h =
        let o : l ≡ m = same_is l m s in
        let rest : list_any (passes l) (accepted_from (first + 1) ms ls) ≡ false =
        any_none (first + 1) l ls (ap (λ x. position_from (same_labels x) (first + 1) ls) o ∙ n) in
        (λ i. (accepts ms (sym o i) && test first) || rest i) ∙ or-false (accepts ms l && test first)
    any_by first l m ls false s n h =
        ap (λ b. b || list_any (passes l) (accepted_from (first + 1) ms ls)) (and-false (accepts ms m)) ∙ h

    any_accepted : (first : ℕ) (l : Pairs) (ls : List Pairs) → are_apart ls ≡ true
        → list_any (passes l) (accepted_from first ms ls) ≡ (accepts ms l && test_found (position_from (same_labels l) first ls))
    any_accepted first l [] h = sym (and-false (accepts ms l))
    any_accepted first l (m ∷ ls) h =
        first_passes first l m (accepted_from (first + 1) ms ls) (accepts ms m)
        ∙ any_by first l m ls (same_labels l m) refl (first_absent m ls (first + 1) h) (any_accepted (first + 1) l ls (others_apart m ls h))

-- ---- in order

any_ins_by : (p : Entry → Bool) (x y : Entry) (ys : List Entry) (b : Bool) → list_any p (ins series_cmp x ys) ≡ (p x || list_any p ys)
    → list_any p (cond b (y ∷ ins series_cmp x ys) (x ∷ y ∷ ys)) ≡ (p x || (p y || list_any p ys))
any_ins_by p x y ys true h = ap (λ b. p y || b) h ∙ or_turned (p y) (p x) (list_any p ys)
any_ins_by p x y ys false h = refl

any_ins : (p : Entry → Bool) (x : Entry) (ys : List Entry) → list_any p (ins series_cmp x ys) ≡ (p x || list_any p ys)
any_ins p x [] = refl
any_ins p x (y ∷ ys) = any_ins_by p x y ys (is_gt (series_cmp x y)) (any_ins p x ys)

any_sorted : (p : Entry → Bool) (es : List Entry) → list_any p (isort series_cmp es) ≡ list_any p es
any_sorted p [] = refl
any_sorted p (e ∷ es) = any_ins p e (isort series_cmp es) ∙ ap (λ b. p e || b) (any_sorted p es)

each_ins_by : (P : Entry → Type 0) (x y : Entry) (ys : List Entry) (b : Bool) → P x → Each P (y ∷ ys) → Each P (ins series_cmp x ys) → Each P (cond b (y ∷ ins series_cmp x ys) (x ∷ y ∷ ys))
each_ins_by P x y ys true p h r = (h.0, r)
each_ins_by P x y ys false p h r = (p, h)

each_ins : (P : Entry → Type 0) (x : Entry) (ys : List Entry) → P x → Each P ys → Each P (ins series_cmp x ys)
each_ins P x [] p h = (p, tt)
each_ins P x (y ∷ ys) p h = each_ins_by P x y ys (is_gt (series_cmp x y)) p h (each_ins P x ys p h.1)

above_names : (n : Pairs) (es : List Entry) → Each (λ e. labels_cmp n e.0 ≡ Less) es → AllAbove n (names es)
above_names n [] h = tt
above_names n (e ∷ es) h = (h.0, above_names n es h.1)

above_entries : (n : Pairs) (es : List Entry) → AllAbove n (names es) → Each (λ e. labels_cmp n e.0 ≡ Less) es
above_entries n [] h = tt
above_entries n (e ∷ es) h = (h.0, above_entries n es h.1)

apart : (b c : Bool) → (b || c) ≡ false → (b ≡ false) × (c ≡ false)
apart true c h = cc
apart false c h = (refl, h)

-- an entry whose labels are not there yet is put in
ins_rises_by : (x y : Entry) (ys : List Entry) (o : Ordering) → labels_cmp x.0 y.0 ≡ o → is_eq o ≡ false → Ascends (names (y ∷ ys)) → Ascends (names (ins series_cmp x ys))
    → Ascends (names (cond (is_gt (ordering_then o (nat_cmp x.1 y.1))) (y ∷ ins series_cmp x ys) (x ∷ y ∷ ys)))
ins_rises_by x y ys Less e n h r = ((e, above_all x.0 y.0 (names ys) e h.0), h)
ins_rises_by x y ys Equal e n h r = cc
ins_rises_by x y ys Greater e n h r =
    let less : labels_cmp y.0 x.0 ≡ Less = labels_total.antisymm y.0 x.0 ∙ ap ordering_reverse e in
    (above_names y.0 (ins series_cmp x ys) (each_ins (λ z. labels_cmp y.0 z.0 ≡ Less) x ys less (above_entries y.0 ys h.0)), r)

ins_rises : (x : Entry) (ys : List Entry) → stands_in x.0 (names ys) ≡ false → Ascends (names ys) → Ascends (names (ins series_cmp x ys))
ins_rises x [] n h = (tt, tt)
ins_rises x (y ∷ ys) n h =
    let a = apart (same_labels x.0 y.0) (stands_in x.0 (names ys)) n in
    ins_rises_by x y ys (labels_cmp x.0 y.0) refl a.0 h (ins_rises x ys a.1 h.1)

-- ---- all of it

true_alone : (es : List Entry) (ms : List Matcher) (n : Pairs) → list_any (passes ms (λ k. true) n) es ≡ stands_in n (names es)
true_alone [] ms n = refl
true_alone (e ∷ es) ms n = λ i. alone (same_labels n e.0) i || true_alone es ms n i where
  alone : (b : Bool) → (b && true) ≡ b
  alone true = refl
  alone false = refl

-- what is accepted, in order: the label sets rise, each entry is accepted, and those that pass a test are known
pub record AreInOrder (ms : List Matcher) (ls : List Pairs) (es : List Entry) : Type 0 where
  pub rising : Ascends (names es)
  pub each : Each (IsAccepted ms 0 ls) es
  pub has : (l : Pairs) → stands_in l (names es) ≡ (accepts ms l && is_some (id_of l ls))

module _ (ms : List Matcher) where
  abbrev sorted_from : ℕ → List Pairs → List Entry
  sorted_from first ls = isort series_cmp (accepted_from first ms ls)

  no_name : (first : ℕ) (m : Pairs) (ls : List Pairs) → position_from (same_labels m) first ls ≡ None → stands_in m (names (sorted_from first ls)) ≡ false
  no_name first m ls h =
      sym (true_alone (sorted_from first ls) ms m) ∙ any_sorted (passes ms (λ k. true) m) (accepted_from first ms ls) ∙ any_none ms (λ k. true) first m ls h

  rising_by : (first : ℕ) (m : Pairs) (es : List Entry) (b : Bool) → stands_in m (names (isort series_cmp es)) ≡ false → Ascends (names (isort series_cmp es))
      → Ascends (names (isort series_cmp (cond b ((m, first) ∷ es) es)))
  rising_by first m es true n h = ins_rises (m, first) (isort series_cmp es) n h
  rising_by first m es false n h = h

  rising_from : (first : ℕ) (ls : List Pairs) → are_apart ls ≡ true → Ascends (names (sorted_from first ls))
  rising_from first [] h = tt
  rising_from first (m ∷ ls) h =
      rising_by first m (accepted_from (first + 1) ms ls) (accepts ms m)
      (no_name (first + 1) m ls (first_absent m ls (first + 1) h)) (rising_from (first + 1) ls (others_apart m ls h))

  each_by : (first : ℕ) (m : Pairs) (ls : List Pairs) (es : List Entry) (b : Bool) → accepts ms m ≡ b → Each (IsAccepted ms first (m ∷ ls)) (isort series_cmp es)
      → Each (IsAccepted ms first (m ∷ ls)) (isort series_cmp (cond b ((m, first) ∷ es) es))
  each_by first m ls es true a h = each_ins (IsAccepted ms first (m ∷ ls)) (m, first) (isort series_cmp es) (first_accepted ms first m ls a) h
  each_by first m ls es false a h = h

  each_from : (first : ℕ) (ls : List Pairs) → are_apart ls ≡ true → Each (IsAccepted ms first ls) (sorted_from first ls)
  each_from first [] h = tt
  each_from first (m ∷ ls) h =
      each_by first m ls (accepted_from (first + 1) ms ls) (accepts ms m) refl
      (all_behind ms first m ls (sorted_from (first + 1) ls) (first_absent m ls (first + 1) h) (each_from (first + 1) ls (others_apart m ls h)))

  found_some : (o : Option ℕ) → test_found ms (λ k. true) o ≡ is_some o
  found_some None = refl
  found_some (Some n) = refl

  pub in_order : (ls : List Pairs) → are_apart ls ≡ true → AreInOrder ms ls (isort series_cmp (accepted_of ms ls))
  in_order ls h = record {
    rising = rising_from 0 ls h;
    each = each_from 0 ls h;
    has = λ l.
        sym (true_alone (sorted_from 0 ls) ms l) ∙ any_sorted (passes ms (λ k. true) l) (accepted_from 0 ms ls)
        ∙ any_accepted ms (λ k. true) 0 l ls h ∙ ap (λ b. accepts ms l && b) (found_some (id_of l ls));
  }

-- ---- the labels at an id

not_before_by : (l : Pairs) (i n : ℕ) (ms : List Pairs) (b : Bool) → cond b (Some i) (position_from (same_labels l) (i + 1) ms) ≡ Some n
    → (position_from (same_labels l) (i + 1) ms ≡ Some n → i + 1 ≤ n) → i ≤ n
not_before_by l i n ms true e f = let is : i ≡ n = cc in omega arith
not_before_by l i n ms false e f = let w = f e in omega (arith, w)

not_before : (l : Pairs) (i n : ℕ) (ls : List Pairs) → position_from (same_labels l) i ls ≡ Some n → i ≤ n
not_before l i n [] h = cc
not_before l i n (m ∷ ms) h = not_before_by l i n ms (same_labels l m) h (not_before l (i + 1) n ms)

first_found : (l m : Pairs) (i : ℕ) (ms : List Pairs) (b : Bool) → same_labels l m ≡ b → cond b (Some i) (position_from (same_labels l) (i + 1) ms) ≡ Some (i + 0) → m ≡ l
first_found l m i ms true s e = sym (same_is l m s)
first_found l m i ms false s e = let w = not_before l (i + 1) (i + 0) ms e in absurd (omega (arith, w))

next_found : (l m : Pairs) (i j : ℕ) (ms : List Pairs) (b : Bool) → cond b (Some i) (position_from (same_labels l) (i + 1) ms) ≡ Some (i + suc j)
    → (position_from (same_labels l) (i + 1) ms ≡ Some ((i + 1) + j) → get_or ms j [] ≡ l) → get_or ms j [] ≡ l
next_found l m i j ms true e f = let is : i ≡ i + suc j = cc in absurd (omega (arith, is))
next_found l m i j ms false e f = let is : i + suc j ≡ (i + 1) + j = omega arith in f (e ∙ ap Some is)

pub labels_found : (l : Pairs) (i j : ℕ) (ls : List Pairs) → position_from (same_labels l) i ls ≡ Some (i + j) → get_or ls j [] ≡ l
labels_found l i j [] h = cc
labels_found l i zero (m ∷ ms) h = first_found l m i ms (same_labels l m) refl h
labels_found l i (suc j) (m ∷ ms) h = next_found l m i j ms (same_labels l m) h (labels_found l (i + 1) j ms)

pub labels_at : (ms : List Matcher) (ls : List Pairs) (e : Entry) → IsAccepted ms 0 ls e → get_or ls e.1 [] ≡ e.0
labels_at ms ls e h = let is : e.1 ≡ 0 + e.1 = omega arith in labels_found e.0 0 e.1 ls (h.1 ∙ ap Some is)
