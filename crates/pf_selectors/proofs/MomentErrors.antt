-- The errors of an inner expression by rising times, and the first of them in a window.
use Rattle.std.proofs.Common.{◌≡◌, ◌<◌, ◌≤◌, ℕ, zero, suc, ℤ, pos, ◌-ℤ◌, Bool, true, false, cond, ◌&&◌, Option, Some, None, List, [], ◌∷◌, ◌++◌, length, get_or, refl, sym, ap, ◌∙◌, arith}
use Rattle.std.specs.Prelude.{int_le, int_lt, ◌<ℤ◌, ◌≤ℤ◌}
use Rattle.std.specs.List.{AllWithin}
use Rattle.std.specs.List.Sorted.{IsPartitionedBy}
use Rattle.std.proofs.lemmas.Int.{ints}
use Rattle.pf_columns.specs.Steps.{bad_in}
use Rattle.pf_model.specs.declared.cell.ErrorKind.{ErrorKind}
use Rattle.pf_model.specs.Lists.{Each}
use Rattle.pf_selectors.specs.declared.moments.BadMoment.{BadMoment}
use Rattle.pf_selectors.specs.declared.times.Times.{Times}
use Rattle.pf_selectors.specs.Subqueries.{AreInOrder, AreRising, bad_moment, bad_moments, bad_over, earliest, joined_below, lies_in}
use Rattle.pf_selectors.specs.Times.{time_at}

-- ---- their order

abbrev AreBefore : ℤ → List BadMoment → Type 0
AreBefore t xs = Each (λ x. x.time <ℤ t) xs

before_one : (t u : ℤ) (o : Option ErrorKind) (xs : List BadMoment) → t <ℤ u → AreBefore t xs → AreBefore u (xs ++ bad_moment t o)
before_one t u None [] h b = tt
before_one t u (Some kind) [] h b = (h, tt)
before_one t u o (x ∷ xs) h b = (omega (arith, ints, h, b.0), before_one t u o xs h b.1)

after_one : (a t : ℤ) (o : Option ErrorKind) (xs : List BadMoment) → a <ℤ t → Each (λ x. a <ℤ x.time) xs → Each (λ x. a <ℤ x.time) (xs ++ bad_moment t o)
after_one a t None [] h e = tt
after_one a t (Some kind) [] h e = (h, tt)
after_one a t o (x ∷ xs) h e = (e.0, after_one a t o xs h e.1)

order_one : (t : ℤ) (o : Option ErrorKind) (xs : List BadMoment) → AreInOrder xs → AreBefore t xs → AreInOrder (xs ++ bad_moment t o)
order_one t None [] r b = tt
order_one t (Some kind) [] r b = (tt, tt)
order_one t o (x ∷ xs) r b = (after_one x.time t o xs b.0 r.0, order_one t o xs r.1 b.1)

module _ (t : ℕ → ℤ) (o : ℕ → Option ErrorKind) where
  abbrev errors_up : ℕ → List BadMoment
  errors_up n = joined_below (λ j. bad_moment (t j) (o j)) n

  upto : (n : ℕ) → ((j : ℕ) → suc j < suc n → t j <ℤ t (suc j)) → AreInOrder (errors_up n) × AreBefore (t n) (errors_up n)
  upto zero h = (tt, tt)
  upto (suc n) h =
      let r = upto n (λ j l. h j (omega (arith, l))) in
      (order_one (t n) (o n) (errors_up n) r.0 r.1, before_one (t n) (t (suc n)) (o n) (errors_up n) (h n (omega arith)) r.1)

  all_in_order : (n : ℕ) → ((j : ℕ) → suc j < n → t j <ℤ t (suc j)) → AreInOrder (errors_up n)
  all_in_order zero h = tt
  all_in_order (suc n) h = let r = upto n h in order_one (t n) (o n) (errors_up n) r.0 r.1

pub in_order : (at : Times) (bs : List (Option ErrorKind)) → AreRising at → AreInOrder (bad_moments at bs)
in_order at bs h = all_in_order (time_at at) (bad_in bs) at.len h

-- ---- the first in a window

each_at : (P : BadMoment → Type 0) (xs : List BadMoment) (j : ℕ) (d : BadMoment) → j < length xs → Each P xs → P (get_or xs j d)
each_at P [] j d l e = absurd (omega (arith, l))
each_at P (x ∷ xs) zero d l e = e.0
each_at P (x ∷ xs) (suc j) d l e = each_at P xs j d (omega (arith, l)) e.1

lower : (a b t : ℤ) → a <ℤ b → int_le b t ≡ true → int_le a t ≡ true
lower a b t h k = grind (arith, ints)

partitioned : (t : ℤ) (xs : List BadMoment) → AreInOrder xs → (i j : ℕ) (d : BadMoment) → i ≤ j → j < length xs → int_le (get_or xs j d).time t ≡ true → int_le (get_or xs i d).time t ≡ true
partitioned t [] r i j d l m h = absurd (omega arith)
partitioned t (x ∷ xs) r zero zero d l m h = h
partitioned t (x ∷ xs) r zero (suc j) d l m h =
    lower x.time (get_or xs j d).time t (each_at (λ y. x.time <ℤ y.time) xs j d (omega (arith, m)) r.0) h
partitioned t (x ∷ xs) r (suc i) zero d l m h = absurd (omega arith)
partitioned t (x ∷ xs) r (suc i) (suc j) d l m h = partitioned t xs r.1 i j d (omega arith) (omega arith) h

pub is_partitioned : (t : ℤ) (xs : List BadMoment) → AreInOrder xs → IsPartitionedBy (λ b. int_le b.time t) xs
is_partitioned t xs r i j d l m h = partitioned t xs r i j d l m h

early : (from to u : ℤ) → int_le u from ≡ true → lies_in from to u ≡ false
early from to u h = grind (arith, ints)

late : (from to u v : ℤ) → u <ℤ v → int_le u to ≡ false → lies_in from to v ≡ false
late from to u v h k = grind (arith, ints)

behind : (from to u : ℤ) → int_le u from ≡ false → lies_in from to u ≡ int_le u to
behind from to u h = let b : int_lt from u ≡ true = grind (arith, ints) in ap (λ b. b && int_le u to) b

none_late : (from to u : ℤ) (xs : List BadMoment) → int_le u to ≡ false → Each (λ x. u <ℤ x.time) xs → earliest from to xs ≡ None
none_late from to u [] h e = refl
none_late from to u (x ∷ xs) h e =
    ap (λ b. cond b (Some x.kind) (earliest from to xs)) (late from to u x.time e.0 h) ∙ none_late from to u xs h e.1

head_by : (to : ℤ) (x : BadMoment) (o : Option ErrorKind) (b : Bool) → (b ≡ false → o ≡ None) → cond b (Some x.kind) o ≡ cond b (Some x.kind) None
head_by to x o true h = refl
head_by to x o false h = h refl

at_place : (from to : ℤ) (xs : List BadMoment) (i : ℕ) (d : BadMoment) → AreInOrder xs → i < length xs → AllWithin (λ b. int_le b.time from ≡ true) xs 0 i
    → AllWithin (λ b. int_le b.time from ≡ false) xs i (length xs) → earliest from to xs ≡ cond (int_le (get_or xs i d).time to) (Some (get_or xs i d).kind) None
at_place from to [] i d r l p q = absurd (omega (arith, l))
at_place from to (x ∷ xs) zero d r l p q =
    ap (λ b. cond b (Some x.kind) (earliest from to xs)) (behind from to x.time (q 0 x (omega arith) (omega arith)))
    ∙ head_by to x (earliest from to xs) (int_le x.time to) (λ e. none_late from to x.time xs e r.0)
at_place from to (x ∷ xs) (suc i) d r l p q =
    ap (λ b. cond b (Some x.kind) (earliest from to xs)) (early from to x.time (p 0 x (omega arith) (omega arith)))
    ∙ at_place from to xs i d r.1 (omega (arith, l)) (λ k y a b. p (suc k) y (omega arith) (omega arith)) (λ k y a b. q (suc k) y (omega arith) (omega arith))

le_is : (a b : ℤ) → a ≤ℤ b → int_le a b ≡ true
le_is a b h = grind (arith, ints)

lt_is : (a b : ℤ) → b <ℤ a → int_le a b ≡ false
lt_is a b h = grind (arith, ints)

module _ (from to : ℤ) (xs : List BadMoment) (i : ℕ) (d : BadMoment) (r : AreInOrder xs) (l : i < length xs) (p : AllWithin (λ b. int_le b.time from ≡ true) xs 0 i)
    (q : AllWithin (λ b. int_le b.time from ≡ false) xs i (length xs)) where
  pub found_at : (get_or xs i d).time ≤ℤ to → Some (get_or xs i d).kind ≡ earliest from to xs
  found_at h = let x = get_or xs i d in ap (λ b. cond b (Some x.kind) None) (sym (le_is x.time to h)) ∙ sym (at_place from to xs i d r l p q)

  pub missed_at : to <ℤ (get_or xs i d).time → None ≡ earliest from to xs
  missed_at h = let x = get_or xs i d in ap (λ b. cond b (Some x.kind) None) (sym (lt_is x.time to h)) ∙ sym (at_place from to xs i d r l p q)

pub at_end : (from to : ℤ) (xs : List BadMoment) (i : ℕ) → i ≡ length xs → AllWithin (λ b. int_le b.time from ≡ true) xs 0 i → earliest from to xs ≡ None
at_end from to [] i l p = refl
at_end from to (x ∷ xs) zero l p = absurd (omega (arith, l))
at_end from to (x ∷ xs) (suc i) l p =
    ap (λ b. cond b (Some x.kind) (earliest from to xs)) (early from to x.time (p 0 x (omega arith) (omega arith)))
    ∙ at_end from to xs i (omega (arith, l)) (λ k y a b. p (suc k) y (omega arith) (omega arith))

-- ---- no errors

no_bad : (k : ℕ) → bad_in [] k ≡ None
no_bad zero = refl
no_bad (suc k) = refl

no_moments : (t : ℕ → ℤ) (n : ℕ) → joined_below (λ j. bad_moment (t j) (bad_in [] j)) n ≡ []
no_moments t zero = refl
no_moments t (suc n) = λ i. no_moments t n i ++ bad_moment (t n) (no_bad n i)

pub none_over : (range : ℕ) (at times : Times) (k : ℕ) → bad_in [] k ≡ bad_over range at times [] k
none_over range at times k =
    no_bad k ∙ sym (ap (λ bs. earliest (time_at times k -ℤ pos range) (time_at times k) bs) (no_moments (time_at at) at.len))
