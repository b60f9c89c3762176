-- Verdicts on rows.
use Rattle.std.proofs.Common.{◌≡◌, ℕ, zero, suc, ◌+◌, ◌<◌, ◌≤◌, ℤ, Bool, true, false, cond, ◌&&◌, List, [], ◌∷◌, ◌++◌, length, refl, sym, ap, ◌∙◌, arith, Some, None, Option, nat_le, nat_lt, append_assoc, append-nil, get_or, drop, drop-cons, map, Result, Ok, Err, IfOk}
use Rattle.std.specs.List.{list_all}
use Rattle.std.proofs.lemmas.List.{map-append}
use Rattle.std.specs.Cmp.{first_so, second_so}
use Rattle.std.proofs.lemmas.Bool.Decides.{nat_tests}
use Rattle.pf_base.specs.declared.plain.Row.{Row}
use Rattle.pf_base.specs.LabelSets.{Pairs}
use Rattle.pf_block.specs.Snaps.{SnapData, held_of, are_new, are_timed}
use Rattle.pf_model.specs.Log.{Verdict, too_old, compared, held_value, is_taken, taken_rows, verdict_on, verdicts_on}
use Rattle.pf_store.proofs.Holding.{either, held_value-append}
use Rattle.pf_store.specs.Standing.{IsAlike, IsFresh, StandsFor}
use Rattle.pf_store.proofs.Snapshots.{new_more}

-- ---- the verdict on one row

pub in_ok : {A E : Type 0} (P Q : A → Type 0) (r : Result A E) → ((a : A) → P a → Q a) → IfOk r P → IfOk r Q
in_ok P Q (Ok a) f h = f a h
in_ok P Q (Err e) f h = tt

pub above_floor : (floor : Option ℕ) (f : ℕ) (held : List Row) (r : Row) → floor ≡ Some f → f ≤ r.time → verdict_on floor held r ≡ compared (held_value held r.labels r.time) r.value
above_floor floor f held r e l =
    let b : nat_lt r.time f ≡ false = grind (arith, nat_tests) in
    ap (λ o. verdict_on o held r) e ∙ ap (λ b. cond b (too_old f) (compared (held_value held r.labels r.time) r.value)) b

pub no_floor : (floor : Option ℕ) (held : List Row) (r : Row) → floor ≡ None → verdict_on floor held r ≡ compared (held_value held r.labels r.time) r.value
no_floor floor held r e = ap (λ o. verdict_on o held r) e

pub held_known : (snap : SnapData) (xs ys : List Row) (l : Pairs) (t : ℕ) (v : ℤ) → StandsFor snap xs → Some v ≡ held_of snap l t → held_value (xs ++ ys) l t ≡ Some v
held_known snap xs ys l t v f e = held_value-append xs ys l t ∙ ap (λ o. either o (held_value ys l t)) (sym (e ∙ f l t))

pub held_unknown : (snap : SnapData) (xs ys : List Row) (l : Pairs) (t : ℕ) → StandsFor snap xs → None ≡ held_of snap l t → held_value (xs ++ ys) l t ≡ held_value ys l t
held_unknown snap xs ys l t f e = held_value-append xs ys l t ∙ ap (λ o. either o (held_value ys l t)) (sym (e ∙ f l t))

-- ---- the verdicts on rows, one after another

pub cond_front : (b : Bool) (r : Row) (rows : List Row) → cond b (r ∷ rows) rows ≡ cond b (r ∷ []) [] ++ rows
cond_front true r rows = refl
cond_front false r rows = refl

module _ (floor : Option ℕ) (xs : List Row) (r : Row) (rest rows tk new : List Row) (v : Verdict) where
  pub judged_more : (vs : List Verdict) → v ≡ verdict_on floor (xs ++ tk) r → new ≡ tk ++ cond (is_taken v) (r ∷ []) [] → vs ++ verdicts_on floor (xs ++ tk) (r ∷ rest) ≡ verdicts_on floor xs rows →
      (vs ++ v ∷ []) ++ verdicts_on floor (xs ++ new) rest ≡ verdicts_on floor xs rows
  judged_more vs p q h =
      append_assoc vs (v ∷ []) (verdicts_on floor (xs ++ new) rest)
      ∙ ap (λ n. vs ++ v ∷ verdicts_on floor n rest) (ap (λ n. xs ++ n) q ∙ sym (append_assoc xs tk (cond (is_taken v) (r ∷ []) [])))
      ∙ ap (λ w. vs ++ w ∷ verdicts_on floor ((xs ++ tk) ++ cond (is_taken w) (r ∷ []) []) rest) p ∙ h

  pub taken_more : v ≡ verdict_on floor (xs ++ tk) r → new ≡ tk ++ cond (is_taken v) (r ∷ []) [] → tk ++ taken_rows (r ∷ rest) (verdicts_on floor (xs ++ tk) (r ∷ rest)) ≡ taken_rows rows (verdicts_on floor xs rows) →
      new ++ taken_rows rest (verdicts_on floor (xs ++ new) rest) ≡ taken_rows rows (verdicts_on floor xs rows)
  taken_more p q h =
      let n : xs ++ new ≡ (xs ++ tk) ++ cond (is_taken (verdict_on floor (xs ++ tk) r)) (r ∷ []) [] =
      (ap (λ n. xs ++ n) q ∙ sym (append_assoc xs tk (cond (is_taken v) (r ∷ []) [])) ∙ ap (λ w. (xs ++ tk) ++ cond (is_taken w) (r ∷ []) []) p) in
      let t = taken_rows rest (verdicts_on floor ((xs ++ tk) ++ cond (is_taken (verdict_on floor (xs ++ tk) r)) (r ∷ []) []) rest) in
      ap (λ m. new ++ taken_rows rest (verdicts_on floor m rest)) n ∙ ap (λ m. m ++ t) (q ∙ ap (λ w. tk ++ cond (is_taken w) (r ∷ []) []) p)
      ∙ append_assoc tk (cond (is_taken (verdict_on floor (xs ++ tk) r)) (r ∷ []) []) t
      ∙ ap (λ m. tk ++ m) (sym (cond_front (is_taken (verdict_on floor (xs ++ tk) r)) r t)) ∙ h

all_more : (p : Row → Bool) (xs : List Row) (r : Row) → list_all p xs ≡ true → p r ≡ true → list_all p (xs ++ r ∷ []) ≡ true
all_more p [] r h k = ap (λ b. b && true) k
all_more p (x ∷ xs) r h k =
    ap (λ b. b && list_all p (xs ++ r ∷ [])) (first_so (p x) (list_all p xs) h) ∙ all_more p xs r (second_so (p x) (list_all p xs) h) k

pub timed_more : (tk new : List Row) (r : Row) (rest : List Row) (b : Bool) → new ≡ tk ++ cond b (r ∷ []) [] → are_timed tk ≡ true → are_timed (r ∷ rest) ≡ true → are_timed new ≡ true
timed_more tk new r rest true q h k = ap are_timed q ∙ all_more (λ r. nat_le r.time 4398046511103) tk r h (first_so (nat_le r.time 4398046511103) (are_timed rest) k)
timed_more tk new r rest false q h k = ap are_timed (q ∙ append-nil tk) ∙ h

pub timed_rest : (r : Row) (rest : List Row) → are_timed (r ∷ rest) ≡ true → are_timed rest ≡ true
timed_rest r rest k = second_so (nat_le r.time 4398046511103) (are_timed rest) k

pub fresh_more : (snap : SnapData) (tk new : List Row) (r : Row) (b : Bool) → IsAlike snap → new ≡ tk ++ cond b (r ∷ []) [] → are_new snap tk ≡ true → (b ≡ true → IsFresh snap tk r) → are_new snap new ≡ true
fresh_more snap tk new r true a q n f = ap (are_new snap) q ∙ new_more snap tk r a n (f refl)
fresh_more snap tk new r false a q n f = ap (are_new snap) (q ∙ append-nil tk) ∙ n

pub drop_at : (rows : List Row) (i : ℕ) (r : Row) → i < length rows → r ≡ get_or rows i r → drop i rows ≡ r ∷ drop (i + 1) rows
drop_at rows i r l e =
    drop-cons rows i r l ∙ ap (λ n. get_or rows i r ∷ drop n rows) (let q : suc i ≡ i + 1 = omega arith in q) ∙ ap (λ x. x ∷ drop (i + 1) rows) (sym e)

pub map_more : {A B : Type 0} (f : A → B) (xs ys : List A) (x : A) → ys ≡ xs ++ x ∷ [] → map f ys ≡ map f xs ++ f x ∷ []
map_more f xs ys x e = ap (map f) e ∙ map-append f xs (x ∷ [])

pub at_end : (rows : List Row) (i : ℕ) → length rows ≤ i → drop i rows ≡ []
at_end [] zero l = refl
at_end [] (suc i) l = refl
at_end (r ∷ rs) zero l = absurd (omega arith)
at_end (r ∷ rs) (suc i) l = at_end rs i (omega arith)
